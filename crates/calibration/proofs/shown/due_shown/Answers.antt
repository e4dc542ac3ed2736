use mathlib.Core.Path.{sym}
use native.Mathlib.Omega.{arith}
use Rattle.calibration.specs.Shown.{card, desk}
use Rattle.calibration.proofs.Due.{shown_inside}
use Rattle.calibration.proofs.shown.due_shown.Goals as goal

pub overflow_add-result : goal.overflow_add-result
overflow_add-result c =
    omega (arith, shown_inside c.args.card.now c.args.desk.now (card c.in-Ok-Card.at) (sym (rw c.in-Ok-Card.field-0-is at c.in-Ok-Card.ensures)))

pub slice_bounds-result-end : goal.slice_bounds-result-end
slice_bounds-result-end c =
    omega (arith, shown_inside c.args.card.now c.args.desk.now (card c.in-Ok-Card.at) (sym (rw c.in-Ok-Card.field-0-is at c.in-Ok-Card.ensures)))

pub overflow_add-result-in-Ok-Desk : goal.overflow_add-result-in-Ok-Desk
overflow_add-result-in-Ok-Desk c =
    omega (arith, shown_inside c.args.card.now c.args.desk.now (desk c.in-Ok-Desk.at) (sym (rw c.in-Ok-Desk.field-0-is at c.in-Ok-Desk.ensures)))

pub slice_bounds-result-end-in-Ok-Desk : goal.slice_bounds-result-end-in-Ok-Desk
slice_bounds-result-end-in-Ok-Desk c =
    omega (arith, shown_inside c.args.card.now c.args.desk.now (desk c.in-Ok-Desk.at) (sym (rw c.in-Ok-Desk.field-0-is at c.in-Ok-Desk.ensures)))
