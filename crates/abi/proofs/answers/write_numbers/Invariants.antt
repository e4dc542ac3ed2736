use mathlib.Core.Path.{◌≡◌}
use mathlib.Core.List.{◌++◌}
use lib.ListN.{length, take, drop}
use Rattle.abi.proofs.answers.write_numbers.Given as goal

-- the first i numbers are at the front of the slice
abbrev pub invariant-loop-i : goal.invariant-loop-i
invariant-loop-i l = (l.out ≡ take l.i l.numbers ++ drop l.i l.initial.out) × (length l.out ≡ length l.initial.out)
