use mathlib.Core.Path.{◌≡◌, sym, ap, ◌∙◌}
use mathlib.Core.Bool.{true, false}
use Prim.Native.Nat.{◌%◌}
use native.Mathlib.Omega.{arith}
use borrow.Author.Rules.{rules}
use borrow.Author.Tests.{eq-eqb, ne_eqb}
use Rattle.calibration.specs.Date.{is_leap, days_in}
use Rattle.calibration.proofs.Calendar.{leap_here, february_leap, february, days_30, days_31, other_to_8, other_from_9, no_month_zero}
use Rattle.calibration.proofs.date.days_in.Goals as goal

pub returns-in-2 : goal.returns-in-2
returns-in-2 c =
    let leap : c.args.year % 4 ≡ 0 → is_leap c.args.year ≡ true = λ h. leap_here c.args.year c.requires.0 c.requires.1 ∙ eq-eqb (c.args.year % 4) 0 h in
    sym (february_leap c.args.year c.args.month c.in-2.is (leap c.if-year-eq0.true))

pub returns-in-2-2 : goal.returns-in-2-2
returns-in-2-2 c =
    let not_leap : (c.args.year % 4 ≡ 0 → ⊥) → is_leap c.args.year ≡ false = λ h. leap_here c.args.year c.requires.0 c.requires.1 ∙ ne_eqb (c.args.year % 4) 0 h in
    sym (february c.args.year c.args.month c.in-2.is (not_leap c.if-year-eq0.false))

pub returns-in-4 : goal.returns-in-4
returns-in-4 c =
    sym (days_30 c.args.year c.args.month c.in-4.is)

pub returns-in_default : goal.returns-in_default
returns-in_default c =
    let zero : c.args.month ≡ 0 = omega arith in
    sym (ap (days_in c.args.year) zero ∙ no_month_zero c.args.year)

pub returns-in_default-2 : goal.returns-in_default-2
returns-in_default-2 c =
    sym (other_from_9 c.args.year c.args.month (omega arith) (omega arith) (omega arith) (omega arith))

pub returns-in-1-to-12 : goal.returns-in-1-to-12
returns-in-1-to-12 c = sym (days_31 c.args.year c.args.month (search rules))

pub returns-in-1-to-12-2 : goal.returns-in-1-to-12-2
returns-in-1-to-12-2 c =
    sym (other_to_8 c.args.year c.args.month (omega arith) (omega arith) (omega arith) (omega arith) (omega arith))
