-- Refusal 13: it is replied for data above 65,535 bytes, and only then (rule 1.13).
use Prim.Native.Nat.{ℕ, ◌≤◌, ◌<◌}
use mathlib.Core.Path.{◌≡◌, refl, sym}
use mathlib.Core.Bool.{Bool, true, false, cond}
use borrow.Author.Tests.{lt-ltb, le-ltb, ltb-true, ltb-false}
use lib.Dec.{ltb}
use Rattle.basis.specs.Reply.{Reply, ok, refused}
use Rattle.basis.proofs.Reply.{All, all_cond, all_then, all_every, refused_not_ok}
use Rattle.class.specs.Class.{from_byte}
use Rattle.builder.specs.Builder.{unless_long, new_of}
use Rattle.builder.specs.declared.ExpectedLen.{ExpectedLen}
use Rattle.builder.specs.declared.ExtendedLen.{ExtendedLen}

module _ {A : Type 0} (n : ℕ) where
  pub too_many : (x : Reply A) → 65535 < n → unless_long n x ≡ refused 13
  too_many x h = rw (lt-ltb 65535 n h)

  pub few_enough : (x : Reply A) → n ≤ 65535 → unless_long n x ≡ x
  few_enough x h = rw (le-ltb 65535 n h)

  -- if the reply is a value, the data are at most 65,535 bytes; if it is a refusal, they are more
  value_by : (b : Bool) (x y : A) → ltb 65535 n ≡ b → cond {A = Reply A} b (refused 13) (ok x) ≡ ok y → (n ≤ 65535) × (x ≡ y)
  value_by true x y h e = absurd (refused_not_ok 13 y e)
  value_by false x y h e = (ltb-false 65535 n h, cc)

  pub value_few : (x y : A) → unless_long n (ok x) ≡ ok y → (n ≤ 65535) × (x ≡ y)
  value_few x y e = value_by (ltb 65535 n) x y refl e

  refusal_by : (b : Bool) (x : A) (k : ℕ) → ltb 65535 n ≡ b → cond b (refused 13) (ok x) ≡ refused k → (65535 < n) × (k ≡ 13)
  refusal_by true x k h e = (ltb-true 65535 n h, cc)
  refusal_by false x k h e = absurd (refused_not_ok k x (sym e))

  pub refusal_many : (x : A) (k : ℕ) → unless_long n (ok x) ≡ refused k → (65535 < n) × (k ≡ 13)
  refusal_many x k e = refusal_by (ltb 65535 n) x k refl e

-- a builder is made only for data of at most 65,535 bytes
pub new_few : (c i p q n : ℕ) (e : ExpectedLen) (m : ExtendedLen) → All (λ b. n ≤ 65535) (new_of c i p q n e m)
unfolding new_of
new_few c i p q n e m =
    all_then (λ b. n ≤ 65535) (λ k. Unit {0}) (from_byte c) _ (all_every (λ k. Unit {0}) (from_byte c) (λ k. tt))
    (λ k u. all_cond (λ b. n ≤ 65535) (ltb 65535 n) _ _ (λ h. tt) (λ h. ltb-false 65535 n h))
