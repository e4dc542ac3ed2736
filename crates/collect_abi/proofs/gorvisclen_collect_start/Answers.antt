use mathlib.Core.Path.{sym}
use Rattle.collect_abi.specs.Numbers.{start_reply}
use Rattle.collect_abi.proofs.LentSlices.{start_row}
use Rattle.collect_abi.proofs.gorvisclen_collect_start.Goals as goal

pub returns-in-Ok : goal.returns-in-Ok
unfolding start_reply
returns-in-Ok c =
    start_row _ _ _ _ _ _ _ (sym c.in-Ok.ensures) c.start.ensures c.state_numbers.ensures c.write_numbers.ensures
