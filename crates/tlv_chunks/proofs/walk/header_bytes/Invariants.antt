use mathlib.Core.Path.{◌≡◌}
use Rattle.tlv_chunks.specs.Call.{rest_call}
use Rattle.tlv_chunks.proofs.walk.header_bytes.Given as goal

-- the call is that of the header so far from place `at` on
abbrev pub invariant-loop-at : goal.invariant-loop-at
invariant-loop-at l = rest_call l.initial.header l.chunk l.from ≡ rest_call l.header l.chunk l.at
