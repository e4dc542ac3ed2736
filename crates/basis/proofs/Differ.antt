-- What "differ exactly if" says, in full.
use mathlib.Core.Path.{◌≡◌}
use mathlib.Core.Logic.{◌↔◌}
use Rattle.basis.specs.Differ.{Differ}

-- they are not equal if P holds, and they are equal if it does not
pub differ_says : {A : Type 0} (P : Type 0) (x y : A) → Differ P x y ↔ ((P → x ≡ y → ⊥) × ((P → ⊥) → x ≡ y))
differ_says P x y = ((λ d. (d.differ, d.equal)), (λ h. record { differ = h.0; equal = h.1 }))
