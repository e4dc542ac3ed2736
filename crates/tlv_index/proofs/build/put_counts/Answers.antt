use Prim.Native.Nat.{ℕ, ◌+◌, ◌*◌}
use native.Mathlib.Omega.{arith}
use mathlib.Core.Path.{◌≡◌, ap, ◌∙◌}
use Rattle.basis.specs.Number.{be}
use Rattle.basis.specs.Over.{over_at}
use Rattle.tlv_index.specs.File.{places_count, lengths_count}
use Rattle.tlv_index.specs.Steps.{counts_put}
use Rattle.tlv_index.proofs.build.put_counts.Goals as goal

pub returns : goal.returns
unfolding counts_put
returns c =
    let a = c.args in
    let there : 4 + 5 * a.n ≡ lengths_count 2 a.n = omega arith in
    c.put_number-3.ensures
    ∙ ap (over_at 0 (be 2 a.n))
    (c.put_number-2.ensures
    ∙ ap (over_at (places_count 2 a.n) (be 2 a.n))
    (c.put_number.ensures ∙ ap (λ (k : ℕ). over_at k (be 2 a.n) a.file.now) there))
