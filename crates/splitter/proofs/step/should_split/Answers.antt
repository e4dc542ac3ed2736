use native.Mathlib.Omega.{arith}
use Rattle.splitter.proofs.Steps.{whole_fits, split_found}
use Rattle.splitter.proofs.step.should_split.Goals as goal

pub returns-then-n-len : goal.returns-then-n-len
returns-then-n-len c =
    whole_fits _ _ _ _ _ c.in_ok-total.ensures (omega arith) c.room-len.ensures (omega arith)

pub returns : goal.returns
returns c =
    split_found _ _ _ _ _ c.in_ok-total.ensures (omega arith) c.room-len.ensures _ _ (omega arith) c.if-len-eq0.false
    c.first.ensures c.lowered.ensures
