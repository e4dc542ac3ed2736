use borrow.Author.Rules.{rules}
use borrow.Author.Tests.{tests}
use mathlib.Core.Path.{◌≡◌}
use mathlib.Core.Bool.{true, false}
use Rattle.std.proofs.lemmas.Iterator.{cases_from_all, YieldsList-from_slice}
use Rattle.calibration.specs.Date.{is_decimal}
use Rattle.calibration.proofs.Digits.{packed_by}
use Rattle.calibration.proofs.date.are_packed.Goals as goal

pub returns : goal.returns
returns c =
    packed_by c.args.bytes (search rules) c.all.result
    (cases_from_all _ _ _ (λ b. is_decimal b ≡ true) (λ b. is_decimal b ≡ false) c.all.ensures.ran (YieldsList-from_slice c.args.bytes c.iter.ensures.rest)
    (λ x q k. search (rules, tests)) (λ x q k. search (rules, tests)))
