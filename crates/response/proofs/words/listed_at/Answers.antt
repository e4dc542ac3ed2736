use mathlib.Core.Path.{refl}
use Rattle.response.specs.Words.{table, listed_at}
use Rattle.response.proofs.words.listed_at.Goals as goal

-- the table of the code computes to that of the definition
pub returns : goal.returns
unfolding table listed_at
returns c = refl
