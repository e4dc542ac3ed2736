use Prim.Native.Nat.{ℕ, ◌+◌, ◌*◌}
use native.Mathlib.Omega.{arith}
use mathlib.Core.Path.{◌≡◌, ap, ◌∙◌}
use Rattle.basis.specs.Number.{be}
use Rattle.basis.specs.Over.{over_at}
use Rattle.tlv_index.specs.File.{places_count, lengths_count}
use Rattle.tlv_index.specs.Steps.{entry_put}
use Rattle.tlv_index.proofs.build.put_entry.Goals as goal

pub returns : goal.returns
unfolding entry_put
returns c =
    let a = c.args in
    let in_lengths : 6 + 5 * a.n + 2 * a.i ≡ lengths_count 2 a.n + 2 + 2 * a.i = omega arith in
    let in_places : 4 + 3 * a.n + 2 * a.i ≡ places_count 2 a.n + 2 + 2 * a.i = omega arith in
    c.put_number-3.ensures
    ∙ ap (over_at (2 + 3 * a.i) (be 3 a.object.tag))
    (c.put_number-2.ensures
    ∙ (λ j. over_at (in_places j) (be 2 a.object.at)
    ((c.put_number.ensures ∙ ap (λ (k : ℕ). over_at k (be 2 a.object.len) a.file.now) in_lengths) j)))
