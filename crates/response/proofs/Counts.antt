-- How many statuses have each class, computed over SW1 alone (rule 13.4).
use Prim.Native.Nat.{ℕ, zero, suc, ◌*◌, ◌≤◌}
use mathlib.Core.Path.{◌≡◌, refl, ◌∙◌}
use mathlib.Core.Bool.{Bool, true, false, cond}
use native.Mathlib.Omega.{arith}
use lib.Dec.{eqb, leb}
use Rattle.basis.proofs.Truth.{on_cond}
use Rattle.response.specs.Status.{normal, warning, execution_error, checking_error, unknown, class_by_sw1, class_of}
use Rattle.response.specs.Counts.{total, count, statuses_of}
use Rattle.response.specs.declared.status.Status.{Status}

-- every status has one of the five classes
five_by_sw1 : (a : ℕ) → class_by_sw1 a ≤ 4
unfolding class_by_sw1
five_by_sw1 a =
    let P : ℕ → Type 0 = λ k. k ≤ 4 in
    on_cond P (leb a 0x60) _ _ (λ _. omega arith) (λ _.
    on_cond P (leb a 0x61) _ _ (λ _. omega arith) (λ _.
    on_cond P (leb a 0x63) _ _ (λ _. omega arith) (λ _.
    on_cond P (leb a 0x66) _ _ (λ _. omega arith) (λ _.
    on_cond P (leb a 0x6F) _ _ (λ _. omega arith) (λ _. omega arith)))))

pub five_classes : (t : Status) → class_of t ≤ 4
unfolding class_of
five_classes t =
    let P : ℕ → Type 0 = λ k. k ≤ 4 in
    on_cond P (eqb t.sw1 0x90) _ _ (λ _. on_cond P (eqb t.sw2 0x00) _ _ (λ _. omega arith) (λ _. omega arith)) (λ _. five_by_sw1 t.sw1)

-- sums of equal numbers are equal; n times one number
total_same : (f g : ℕ → ℕ) → ((a : ℕ) → f a ≡ g a) → (n : ℕ) → total f n ≡ total g n
unfolding total
total_same f g e zero = refl
total_same f g e (suc n) = omega (arith, e n, total_same f g e n)

total_constant : (x n : ℕ) → total (λ b. x) n ≡ n * x
unfolding total
total_constant x zero = omega arith
total_constant x (suc n) = omega (arith, total_constant x n)

-- how many of the statuses with this SW1 have the class k
unfoldable by_sw1 : ℕ → ℕ → ℕ
by_sw1 k a =
    cond (eqb a 0x90) (count (λ b. eqb (cond (eqb b 0x00) normal unknown) k) 256) (256 * cond (eqb (class_by_sw1 a) k) 1 0)

sw1_is : (k a : ℕ) (x : Bool) → eqb a 0x90 ≡ x
    → count (λ b. eqb (cond x (cond (eqb b 0x00) normal unknown) (class_by_sw1 a)) k) 256
    ≡ cond x (count (λ b. eqb (cond (eqb b 0x00) normal unknown) k) 256) (256 * cond (eqb (class_by_sw1 a) k) 1 0)
sw1_is k a true e = refl
sw1_is k a false e = total_constant (cond (eqb (class_by_sw1 a) k) 1 0) 256

by_sw1_lem : (k : ℕ) → statuses_of k ≡ total (by_sw1 k) 256
unfolding class_of by_sw1
by_sw1_lem k = total_same _ _ (λ a. sw1_is k a (eqb a 0x90) refl) 256

-- 257 normal, 512 warnings, 768 execution errors, 2,304 checking errors, 61,695 unknown
pub normal_count : statuses_of normal ≡ 257
unfolding by_sw1 total class_by_sw1
normal_count = by_sw1_lem normal ∙ refl

pub warning_count : statuses_of warning ≡ 512
unfolding by_sw1 total class_by_sw1
warning_count = by_sw1_lem warning ∙ refl

pub execution_error_count : statuses_of execution_error ≡ 768
unfolding by_sw1 total class_by_sw1
execution_error_count = by_sw1_lem execution_error ∙ refl

pub checking_error_count : statuses_of checking_error ≡ 2304
unfolding by_sw1 total class_by_sw1
checking_error_count = by_sw1_lem checking_error ∙ refl

pub unknown_count : statuses_of unknown ≡ 61695
unfolding by_sw1 total class_by_sw1
unknown_count = by_sw1_lem unknown ∙ refl
