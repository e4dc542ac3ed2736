use mathlib.Core.Path.{sym}
use native.Mathlib.Omega.{arith}
use Rattle.command.proofs.Parsing.{data_start_inside}
use Rattle.command.proofs.CommandView.try_from.Goals as goal

pub overflow_add-result : goal.overflow_add-result
overflow_add-result c =
    omega (arith, c.well_formed, data_start_inside c.args.reading c.args.apdu.now c.in_ok-lengths.lengths (omega arith) (sym c.in_ok-lengths.ensures))
