use mathlib.Core.Path.{sym}
use Rattle.response.proofs.Splitting.{appended}
use Rattle.response.proofs.append.Goals as goal

pub returns : goal.returns
returns c = appended _ _ _ _ _ _ _ (sym c.in_ok-new.ensures) c.data.ensures c.hold.ensures
