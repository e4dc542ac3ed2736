use Rattle.splitter.proofs.Inside.{left_split}
use Rattle.splitter.proofs.pieces.next_left.Goals as goal

pub returns-in-Some : goal.returns-in-Some
returns-in-Some c =
    let step = rw c.in-Some.is at c.in_ok-should_split.ensures in
    left_split _ _ _ c.requires c.min-at.ensures c.in-Some.split step _ c.pieces_after.ensures
