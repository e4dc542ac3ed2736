use Prim.Native.Nat.{◌+◌}
use mathlib.Core.Path.{◌≡◌}
use lib.ListN.{drop}
use Rattle.tlv.specs.Padding.{zeros}
use Rattle.tlv.proofs.padding.zeros.Given as goal

-- the invariant: the first i bytes are zero
abbrev pub invariant-loop-i : goal.invariant-loop-i
invariant-loop-i l = zeros l.bytes ≡ l.i + zeros (drop l.i l.bytes)
