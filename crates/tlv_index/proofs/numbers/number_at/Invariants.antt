use Prim.Native.Nat.{◌^◌, ◌<◌}
use mathlib.Core.Path.{◌≡◌}
use Rattle.tlv_index.specs.File.{field}
use Rattle.tlv_index.proofs.numbers.number_at.Given as goal

-- the number in the bytes that were read
abbrev pub invariant-loop-i : goal.invariant-loop-i
invariant-loop-i g l = record { so_far : l.number ≡ field l.i l.at l.file; small : l.number < 256 ^ l.i }
