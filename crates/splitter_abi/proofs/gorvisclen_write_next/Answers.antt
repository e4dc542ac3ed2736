use mathlib.Core.Path.{sym}
use native.Mathlib.Omega.{arith}
use Rattle.splitter_abi.proofs.OnlyRefusal16.{only_16}
use Rattle.splitter_abi.proofs.LentSlices.{out_short}
use Rattle.splitter_abi.proofs.gorvisclen_write_next.Goals as goal

pub returns-then-out-lt5 : goal.returns-then-out-lt5
returns-then-out-lt5 c =
    let made = sym c.in-Ok.ensures in
    rw c.number-then-out-lt5.ensures
    (out_short _ _ _ _ _ _ made (only_16 _ _ _ _ _ _ _ _ _ _ made _ _) (omega arith))
