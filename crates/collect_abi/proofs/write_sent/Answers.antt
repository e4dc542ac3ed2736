use native.Mathlib.Omega.{arith}
use mathlib.Core.List.{[], ◌∷◌}
use Rattle.basis.proofs.Over.{stored}
use Rattle.abi.proofs.SerializedLaws.{done}
use Rattle.collect_abi.proofs.LentSlices.{sent_serialized}
use Rattle.collect_abi.proofs.write_sent.Goals as goal

pub returns-in-Ok : goal.returns-in-Ok
returns-in-Ok c =
    let kind = c.args.kind in
    done _ _ _ _ _ (omega arith) _ _ (sent_serialized kind _ _ _ _ _ _ _ c.sent_by_kind-to_send.ensures c.write.ensures) _ _
    c.in-Ok.is (stored (_ ∷ []) _ (omega arith))
