use borrow.Author.Rules.{rules}
use native.Mathlib.Omega.{arith}
use lib.ListN.{length}
use mathlib.Core.Path.{◌≡◌, refl, sym, ap, ◌∙◌}
use mathlib.Core.List.{[], ◌∷◌}
use Rattle.basis.specs.Over.{over_at}
use Rattle.basis.proofs.Over.{copied_front, copied_at, over_at_zero, over_at_twice}
use Rattle.calibration.specs.Profile.{object}
use Rattle.calibration.proofs.put.put_object.Goals as goal

pub returns : goal.returns
unfolding object
returns c =
    let v = c.args.value in
    let part = c.args.part.now in
    let head = c.args.tag ∷ 4 ∷ [] in
    let size : length v ≡ 4 = search rules in
    let front = copied_front 2 head _ _ c.copy_from_slice.ensures.after refl ∙ sym (over_at_zero head part) in
    rw size
    (copied_at 2 4 v _ _ c.copy_from_slice-2.ensures.after (sym size)
    ∙ ap (over_at 2 v) front
    ∙ over_at_twice 0 head v part (omega arith)
    ∙ over_at_zero (c.args.tag ∷ 4 ∷ v) part)
