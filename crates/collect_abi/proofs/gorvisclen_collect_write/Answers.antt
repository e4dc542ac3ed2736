use mathlib.Core.Path.{ap, ◌∙◌}
use native.Mathlib.Omega.{arith}
use Rattle.abi.specs.Builders.{builder_by_numbers}
use Rattle.abi.proofs.SerializedLaws.{out_short}
use Rattle.collect_abi.proofs.gorvisclen_collect_write.Goals as goal

pub returns-then-out-lt1 : goal.returns-then-out-lt1
returns-then-out-lt1 c =
    let made = c.builder_by_numbers.ensures ∙ ap (builder_by_numbers _ _ _ _ _ _) c.data_by_kind-sent_data.ensures in
    rw c.number-then-out-lt1.ensures (out_short _ _ _ _ _ _ _ _ made _ _ _ _ c.in-Ok.is (omega arith))
