use borrow.Author.Rules.{rules}
use Rattle.aid.proofs.Spans.{pix_for}
use Rattle.aid.proofs.part.span_of.Goals as goal

pub returns-in-Pix : goal.returns-in-Pix
returns-in-Pix c =
    pix_for _ _ _ _ _ (search rules) c.in-Pix.is c.has_rid-in-Pix.ensures c.min-end.ensures c.then_some-in-Pix.ensures
