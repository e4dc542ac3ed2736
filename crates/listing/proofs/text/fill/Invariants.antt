use lib.ListN.{drop}
use Rattle.listing.specs.Text.{filled}
use Rattle.listing.proofs.Writing.{ToWrite}
use Rattle.listing.proofs.text.fill.Given as goal

-- what is left to write is what is left of the form, with the numbers that are left
abbrev pub invariant-loop-c : goal.invariant-loop-c
invariant-loop-c l = ToWrite (filled l.form l.numbers) l.at l.initial.out (filled (drop l.c-index l.form) l.left) l.place l.out
