-- Laws of replies.
use Prim.Native.Nat.{ℕ}
use mathlib.Core.Path.{◌≡◌, refl, sym, ap, ◌∙◌, subst}
use mathlib.Core.Bool.{Bool, true, false, cond}
use native.Mathlib.Omega.{arith}
use Rattle.basis.specs.Reply.{Told, ok, refused, then}

-- a refusal is no value
pub refused_not_ok : {E A : Type 0} (k : E) (a : A) → refused k ≡ ok a → ⊥
refused_not_ok k a e = let z : ◌≡◌ {A = ℕ} 0 1 = cc in omega arith

-- if an answer can be computed back from its reply, two answers with one reply are equal
pub apart : {A B : Type 0} (asReply : A → B) (back : B → A) → ((x : A) → back (asReply x) ≡ x) → (x y : A) → asReply x ≡ asReply y → x ≡ y
apart asReply back h x y e = sym (h x) ∙ ap back e ∙ h y

-- a reply is a value or a refusal
pub by_reply : {E A P : Type 0} (x : Told E A) → ((a : A) → x ≡ ok a → P) → ((k : E) → x ≡ refused k → P) → P
by_reply (ok a) h g = h a refl
by_reply (refused k) h g = g k refl

-- P holds of the value, if the reply gives one
abbrev pub All : {E A : Type 0} → (A → Type 0) → Told E A → Type 0
All P (ok a) = P a
All P (refused k) = Unit {0}

-- if a reply gives a value, it is that value
pub all_self : {E A : Type 0} (x : Told E A) → All (λ a. x ≡ ok a) x
all_self (ok a) = refl
all_self (refused k) = tt

pub all_both : {E A : Type 0} (P Q : A → Type 0) (x : Told E A) → All P x → All Q x → All (λ a. P a × Q a) x
all_both P Q (ok a) h g = (h, g)
all_both P Q (refused k) h g = tt

module _ {E A : Type 0} (P : A → Type 0) where
  pub all_is : (x : Told E A) (a : A) → All P x → x ≡ ok a → P a
  all_is x a h e = subst (All P) e h

  pub all_cond : (b : Bool) (x y : Told E A) → (b ≡ true → All P x) → (b ≡ false → All P y) → All P (cond b x y)
  all_cond true x y h g = h refl
  all_cond false x y h g = g refl

  pub all_then : {B : Type 0} (Q : B → Type 0) (x : Told E B) (f : B → Told E A) → All Q x → ((b : B) → Q b → All P (f b)) → All P (then x f)
  all_then Q (ok b) f h g = g b h
  all_then Q (refused k) f h g = tt

  pub all_every : (x : Told E A) → ((a : A) → P a) → All P x
  all_every (ok a) h = h a
  all_every (refused k) h = tt

  pub all_weaken : (Q : A → Type 0) (x : Told E A) → ((a : A) → Q a → P a) → All Q x → All P x
  all_weaken Q (ok a) f h = f a h
  all_weaken Q (refused k) f h = tt
