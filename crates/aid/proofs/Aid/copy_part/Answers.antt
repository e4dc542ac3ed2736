use borrow.Author.Rules.{rules}
use native.Mathlib.Omega.{arith}
use Rattle.basis.proofs.Over.{copied_front}
use Rattle.aid.proofs.Spans.{part_copied}
use Rattle.aid.proofs.Aid.copy_part.Goals as goal

pub returns : goal.returns
returns c =
    part_copied (search rules) c.span_of.ensures c.in-Some.is _ _ _ (omega arith) (omega arith)
    (copied_front _ _ _ _ c.copy_from_slice.ensures.after (omega arith))
