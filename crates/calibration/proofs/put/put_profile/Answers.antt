use mathlib.Core.Path.{sym, ◌∙◌}
use native.Mathlib.Omega.{arith}
use Rattle.calibration.proofs.Written.{written}
use Rattle.calibration.proofs.put.put_profile.Goals as goal

pub returns : goal.returns
returns c =
    written _ _ _ (omega arith) (omega arith) (sym c.is_real.ensures ∙ c.if-not-is_real.false) _ (omega arith) c.write.ensures
