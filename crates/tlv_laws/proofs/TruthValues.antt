-- Laws of tests and truth values.
use mathlib.Core.Path.{◌≡◌, refl}
use mathlib.Core.Bool.{Bool, true, false, cond, true≢false, false≢true}

-- a test is true or false
pub by_test : {P : Type 0} (b : Bool) → (b ≡ true → P) → (b ≡ false → P) → P
by_test true h g = h refl
by_test false h g = g refl

-- two choices by one test are equal if they are equal in both cases
pub same_cond : {A : Type 0} (b : Bool) (x x' y y' : A) → (b ≡ true → x ≡ x') → (b ≡ false → y ≡ y') → cond b x y ≡ cond b x' y'
same_cond true x x' y y' h g = h refl
same_cond false x x' y y' h g = g refl

-- "or" is false only if both are false; the second is true, and the first is not
pub neither : (a b : Bool) → cond a true b ≡ false → (a ≡ false) × (b ≡ false)
neither true b e = absurd (true≢false e)
neither false b e = (refl, e)

pub second_alone : (a b : Bool) → cond a false b ≡ true → (a ≡ false) × (b ≡ true)
second_alone true b e = absurd (false≢true e)
second_alone false b e = (refl, e)

pub not_true_false : (b : Bool) → (b ≡ true → ⊥) → b ≡ false
not_true_false true h = absurd (h refl)
not_true_false false h = refl
