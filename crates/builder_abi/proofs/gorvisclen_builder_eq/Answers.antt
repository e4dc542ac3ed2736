use Rattle.builder_abi.proofs.LentSlices.{equal_row}
use Rattle.builder_abi.proofs.gorvisclen_builder_eq.Goals as goal

pub returns : goal.returns
returns c =
    equal_row _ _ _ _ _ _ _ _ c.builder_by_numbers-built.ensures _ _ _ _ _ c.compared.ensures c.write_equal.ensures
