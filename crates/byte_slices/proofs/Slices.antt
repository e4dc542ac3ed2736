-- Laws of lists that hold the same bytes: they are equal, and `==` on slices finds that out.
use Prim.Native.Nat.{ℕ}
use mathlib.Core.Path.{◌≡◌, refl, ap}
use mathlib.Core.Bool.{Bool, true, false, cond, ◌&&◌}
use mathlib.Core.List.{List, [], ◌∷◌}
use borrow.Author.Tests.{eq-eqb, eqb-true}
use lib.Dec.{eqb}
use Rattle.std.specs.Cmp.Lexicographic.{pointwise}
use lib.ListN.{length}
use Rattle.basis.proofs.Truth.{same_truth, both_true}
use Rattle.byte_slices.specs.Slices.{same}

pub same_equal : (s t : List ℕ) → same s t ≡ true → s ≡ t
unfolding same
same_equal [] [] e = refl
same_equal [] (y ∷ t) e = cc
same_equal (x ∷ s) [] e = cc
same_equal (x ∷ s) (y ∷ t) e =
    let h = both_true (eqb x y) (same s t) e in
    let a : x ≡ y = eqb-true x y h.0 in
    let b : s ≡ t = same_equal s t h.1 in
    λ i. a i ∷ b i

pub same_self : (s : List ℕ) → same s s ≡ true
unfolding same
same_self [] = refl
same_self (x ∷ s) = rw (eq-eqb x x refl, same_self s)

-- lists of different lengths do not hold the same bytes
pub other_length : (s t : List ℕ) → (length s ≡ length t → ⊥) → false ≡ same s t
other_length s t h = same_truth false (same s t) (λ e. cc) (λ e. absurd (h (ap (λ (l : List ℕ). length l) (same_equal s t e))))

-- `==` on slices goes byte by byte
pub same_pointwise : (s t : List ℕ) → pointwise eqb s t ≡ same s t
unfolding same
same_pointwise [] [] = refl
same_pointwise [] (y ∷ t) = refl
same_pointwise (x ∷ s) [] = refl
same_pointwise (x ∷ s) (y ∷ t) = by_head (eqb x y) _ _ (same_pointwise s t)
  where
    by_head : (a b c : Bool) → b ≡ c → (a && b) ≡ cond a c false
    by_head true b c e = e
    by_head false b c e = refl
