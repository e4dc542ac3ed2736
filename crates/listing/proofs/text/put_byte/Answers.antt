use borrow.Author.Rules.{rules}
use Rattle.listing.proofs.Writing.{puts_byte}
use Rattle.listing.proofs.text.put_byte.Goals as goal

pub returns : goal.returns
returns c = puts_byte _ _ _ (search rules)
