use mathlib.Core.Path.{◌≡◌, ◌∙◌}
use native.Mathlib.Omega.{arith}
use lib.ListN.{length}
use Rattle.basis.proofs.Over.{copied}
use Rattle.abi.proofs.AnswerLaws.{row_written}
use Rattle.abi.proofs.answers.write_numbers.Goals as goal

pub returns : goal.returns
returns c =
    let a = c.args in
    let done : c.loop-i.i ≡ length a.numbers.now = omega arith in
    row_written _ _ _ _ (omega arith) (rw done at c.loop-i.invariant.0 ∙ copied a.numbers.now a.out.now)
