use Rattle.std.proofs.Common.{◌+◌, ◌-◌, ◌≤◌, length, drop}
use Rattle.listing.specs.Text.{object_lines}
use Rattle.listing.proofs.Writing.{ToWrite}
use Rattle.listing.proofs.LineLaws.{lines_from}
use Rattle.listing.proofs.lines.put_objects.Given as goal

-- the lines of the objects from the place on are still to be written
abbrev pub invariant-loop-object : goal.invariant-loop-object
invariant-loop-object l =
    ToWrite (object_lines l.k l.«record») l.start l.initial.out (lines_from l.k l.j l.at (drop l.at l.«record»)) l.place l.out
    × (l.at ≤ length l.«record») × (l.j ≤ l.at + 1)

abbrev pub decreases-loop-object : goal.decreases-loop-object
decreases-loop-object l = length l.«record» - l.at
