use mathlib.Core.Path.{refl}
use native.Mathlib.Omega.{arith}
use borrow.Author.Tests.{le-ltb}
use lib.ListN.{length}
use Rattle.basis.proofs.Over.{copied_front}
use Rattle.abi.proofs.AnswerLaws.{row_status_0, row_all}
use Rattle.abi.proofs.answers.copy_and_tell.Goals as goal

pub returns : goal.returns
returns c =
    let a = c.args in
    let n = le-ltb (length a.out.now) (length a.numbers.now) (omega arith) in
    let m = le-ltb (length a.to.now) (length a.part.now) (omega arith) in
    record {
      reply = rw (n, m) (row_status_0 _ _ _ _ c.write_numbers.ensures (omega arith));
      bytes = rw (n, m) (copied_front _ _ _ _ c.copy_from_slice.ensures.after refl);
      row = rw (n, m) (row_all _ _ _ _ c.write_numbers.ensures (omega arith));
    }
