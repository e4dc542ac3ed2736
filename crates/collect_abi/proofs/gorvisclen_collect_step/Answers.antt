use mathlib.Core.Path.{refl, sym}
use native.Mathlib.Omega.{arith}
use Rattle.collect_abi.proofs.LentSlices.{state_refused, state_is, no_state, few_numbers, response_taken}
use Rattle.collect_abi.proofs.gorvisclen_collect_step.Goals as goal

pub returns-then-out-lt12 : goal.returns-then-out-lt12
returns-then-out-lt12 c =
    rw c.number-then-out-lt12.ensures
    (few_numbers _ _ _ _ _ (state_is _ _ _ _ _ _ _ _ _ _ (sym c.in-Ok.ensures) refl) (omega arith))

pub returns-in-Err : goal.returns-in-Err
returns-in-Err c =
    no_state _ _ _ _ _ _ (state_refused _ _ _ _ _ _ _ _ _ (sym c.in-Err.ensures)) (rw c.number.ensures at c.refusal_status.ensures)

pub returns-else-out-lt12 : goal.returns-else-out-lt12
returns-else-out-lt12 c =
    response_taken _ _ _ _ _ (state_is _ _ _ _ _ _ _ _ _ _ (sym c.in-Ok.ensures) c.sent_by_kind-sent.ensures) (omega arith)
    _ _ c.step-answer.ensures _ _ c.write_step.ensures
