use native.Mathlib.Omega.{arith}
use mathlib.Core.Path.{◌≡◌}
use mathlib.Core.List.{[], ◌∷◌}
use lib.ListN.{length-set}
use Rattle.basis.specs.Number.{be}
use Rattle.basis.specs.Over.{over}
use Rattle.basis.proofs.Over.{stored}
use Rattle.builder.specs.Sizes.{field}
use Rattle.builder.proofs.write.put_field.Goals as goal

pub returns-then-size-eq0 : goal.returns-then-size-eq0
unfolding over field
returns-then-size-eq0 c = let z : c.args.size ≡ 0 = omega (arith, c.if-size-eq0.true) in rw z

pub returns-then-size-eq1 : goal.returns-then-size-eq1
unfolding field be
returns-then-size-eq1 c = rw c.if-size-eq1.true (stored (_ ∷ []) _ (omega arith))

pub returns-then-size-eq2 : goal.returns-then-size-eq2
unfolding field be
returns-then-size-eq2 c = rw c.if-size-eq2.true (stored (_ ∷ _ ∷ []) _ (omega arith))

pub returns : goal.returns
unfolding field be
returns c =
    let z : c.args.size ≡ 3 = omega arith in
    rw z (stored (_ ∷ _ ∷ _ ∷ []) _ (omega arith))

pub bounds-to-1 : goal.bounds-to-1
bounds-to-1 c = simp length-set (omega arith)

pub bounds-to-1-2 : goal.bounds-to-1-2
bounds-to-1-2 c = simp length-set (omega arith)

pub bounds-to-2 : goal.bounds-to-2
bounds-to-2 c = simp length-set (omega arith)
