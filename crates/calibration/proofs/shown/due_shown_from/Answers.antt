use mathlib.Core.Path.{sym}
use native.Mathlib.Omega.{arith}
use Rattle.calibration.proofs.Read.{fields_told}
use Rattle.calibration.proofs.Due.{card_shown, desk_shown}
use Rattle.calibration.proofs.shown.due_shown_from.Goals as goal

pub returns-in-Ok : goal.returns-in-Ok
returns-in-Ok c = card_shown _ _ _ _ (sym c.in-Ok.ensures) (omega arith)

pub returns-in_ok-read_profile-in-Err : goal.returns-in_ok-read_profile-in-Err
returns-in_ok-read_profile-in-Err c =
    desk_shown _ _ _ _ _ (sym c.in-Err.ensures) (sym c.in_ok-read_profile-in-Err.ensures) (omega arith)

pub overflow_add-result : goal.overflow_add-result
overflow_add-result c =
    let told = fields_told c.args.card.now _ (sym c.in-Ok.ensures) in omega (arith, told.serial_is, told.formed.most)

pub overflow_add-result-in-Err : goal.overflow_add-result-in-Err
overflow_add-result-in-Err c =
    let told = fields_told c.args.desk.now _ (sym c.in_ok-read_profile-in-Err.ensures) in omega (arith, told.serial_is, told.formed.most)
