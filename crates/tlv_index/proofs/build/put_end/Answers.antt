use Prim.Native.Nat.{ℕ, ◌+◌, ◌*◌}
use native.Mathlib.Omega.{arith}
use mathlib.Core.Path.{◌≡◌, ap, ◌∙◌}
use Rattle.basis.specs.Number.{be}
use Rattle.basis.specs.Over.{over_at}
use Rattle.tlv.specs.Object.{stop_of}
use Rattle.tlv.specs.Stop.{stop_number}
use Rattle.tlv_index.specs.File.{end_section, end_count}
use Rattle.tlv_index.proofs.Sections.{end_put}
use Rattle.tlv_index.proofs.build.put_end.Goals as goal

pub returns : goal.returns
returns c =
    let a = c.args in
    let end = 6 + 7 * a.n in
    let there : end ≡ end_count 2 a.n = omega arith in
    let reason : c.from.result ≡ stop_number a.stop.stop = c.from.ensures ∙ c.number.ensures in
    c.put_number-3.ensures
    ∙ ap (over_at (end + 4) (be 2 a.stop.place))
    (c.put_number-2.ensures ∙ (λ i. over_at (end + 2) (be 2 (reason i)) (c.put_number.ensures i)))
    ∙ end_put 2 end (stop_of a.stop) a.file.now (omega (arith, c.requires))
    ∙ ap (λ (k : ℕ). over_at k (end_section 2 (stop_of a.stop)) a.file.now) there
