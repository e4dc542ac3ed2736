use Rattle.builder_abi.proofs.LentSlices.{forced_row}
use Rattle.builder_abi.proofs.gorvisclen_force_extended.Goals as goal

pub returns : goal.returns
returns c =
    forced_row _ _ _ _ _ _ _ _ c.builder_by_numbers-built.ensures _ _ _ _ c.forced-extended.ensures c.write_required_len.ensures
