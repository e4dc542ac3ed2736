use Prim.Native.Nat.{◌-◌}
use mathlib.Core.Path.{◌≡◌}
use Rattle.basis.specs.Number.{be}
use Rattle.basis.specs.Over.{over_at}
use Rattle.tlv_index.proofs.numbers.put_number.Given as goal

-- the bytes that are left, written over the file so far, are the number written over the file
abbrev pub invariant-loop-i : goal.invariant-loop-i
invariant-loop-i g l =
    over_at l.at (be (g.row.N - l.i) l.rest) l.file ≡ over_at l.at (be g.row.N l.number) l.initial.file
