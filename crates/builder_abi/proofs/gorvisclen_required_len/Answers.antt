use Rattle.builder_abi.proofs.LentSlices.{required_row}
use Rattle.builder_abi.proofs.gorvisclen_required_len.Goals as goal

pub returns : goal.returns
returns c =
    required_row _ _ _ _ _ _ _ _ c.builder_by_numbers-built.ensures _ _ _ c.write_required_len.ensures
