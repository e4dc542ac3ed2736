use native.Mathlib.Omega.{arith}
use mathlib.Core.List.{[], ◌∷◌}
use Rattle.basis.proofs.Over.{stored}
use Rattle.abi.proofs.SerializedLaws.{done}
use Rattle.builder_abi.proofs.write.write.Goals as goal

pub returns-in-Ok : goal.returns-in-Ok
returns-in-Ok c =
    done _ _ _ _ _ (omega arith) _ _ c.serialize_into.ensures _ _ c.in-Ok.is (stored (_ ∷ []) _ (omega arith))
