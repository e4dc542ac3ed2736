use native.Mathlib.Omega.{arith}
use Rattle.abi.proofs.SerializedLaws.{out_short}
use Rattle.builder_abi.proofs.write.gorvisclen_serialize_into.Goals as goal

pub returns-then-out-lt1 : goal.returns-then-out-lt1
returns-then-out-lt1 c =
    rw c.number-then-out-lt1.ensures
    (out_short _ _ _ _ _ _ _ _ c.builder_by_numbers.ensures _ _ _ _ c.in-Ok.is (omega arith))
