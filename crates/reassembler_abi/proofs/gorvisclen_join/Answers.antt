use mathlib.Core.Path.{sym}
use native.Mathlib.Omega.{arith}
use Rattle.reassembler_abi.proofs.LentSlices.{joined}
use Rattle.reassembler_abi.proofs.gorvisclen_join.Goals as goal

pub returns-in-Ok : goal.returns-in-Ok
returns-in-Ok c =
    joined _ _ _ _ (omega arith) _ (sym c.in-Ok.ensures) _ _ _ _ c.usable_len-end.ensures _ c.join.ensures c.write_joined.ensures
