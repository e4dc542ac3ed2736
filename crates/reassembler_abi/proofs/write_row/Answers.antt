use borrow.Author.Rules.{rules}
use native.Mathlib.Omega.{arith}
use Rattle.reassembler_abi.proofs.LentSlices.{row_written}
use Rattle.reassembler_abi.proofs.write_row.Goals as goal

pub returns : goal.returns
returns c =
    row_written _ c.args.state _ _ _ _ _ _ (search rules) (omega arith) c.write_numbers.ensures c.state_numbers.ensures c.write_numbers-2.ensures
