-- Which case is used for how many data bytes and which Le, and what follows for the bytes of Lc and Le.
use Prim.Native.Nat.{ℕ, zero, suc, ◌≤◌, ◌<◌}
use mathlib.Core.Path.{◌≡◌, refl}
use native.Mathlib.Decide.{dec_le}
use native.Mathlib.Omega.{arith}
use borrow.Author.Tests.{le-leb, lt-leb, lt-ltb, le-ltb}
use Rattle.builder.specs.Cases.{Case, case1, case2_s, case3_s, case4_s, case2_e, case3_e, case4_e}
use Rattle.builder.specs.Cases.{lc_bytes, le_bytes, unless_forced, after_short, after_extended, case_for}
use Rattle.builder.specs.Bytes.{le_written, case_of, lc_len, le_len}
use Rattle.builder.specs.declared.ExtendedLen.{ExtendedLen}
use Rattle.builder.specs.declared.ExtendedLen.TheVariants.{Unsupported, Supported, Forced}
use Rattle.builder.specs.declared.CommandBuilder.{CommandBuilder}
use Rattle.builder.proofs.Lengths.{case_few}

-- what each case says of the n data bytes and the Le of e that it is used for
abbrev pub Used : Case → ℕ → ℕ → Type 0
Used case1 n e = (n ≡ 0) × (e ≡ 0)
Used case2_s n e = (n ≡ 0) × (1 ≤ e) × (e ≤ 256)
Used case3_s n e = (1 ≤ n) × (n ≤ 255) × (e ≡ 0)
Used case4_s n e = (1 ≤ n) × (n ≤ 255) × (1 ≤ e) × (e ≤ 256)
Used case2_e n e = (n ≡ 0) × (1 ≤ e)
Used case3_e n e = (1 ≤ n) × (e ≡ 0)
Used case4_e n e = (1 ≤ n) × (1 ≤ e)

-- what holds of a choice by the mode
by_mode : (P : Case → Type 0) (m : ExtendedLen) (x y : Case) → ((m ≡ Forced → ⊥) → P x) → (m ≡ Forced → P y) → P (unless_forced m x y)
by_mode P Unsupported x y h g = h (λ e. let z : ◌≡◌ {A = ℕ} 0 1 = cc in omega arith)
by_mode P Supported x y h g = h (λ e. let z : ◌≡◌ {A = ℕ} 0 1 = cc in omega arith)
by_mode P Forced x y h g = g refl

-- A property of the case that is used for an Le without data (rule 3.7): show it of the short case, if Le and mode
-- allow that, and of the extended one, if they do not.
pub by_le : (P : Case → Type 0) (m : ExtendedLen) (e : ℕ) → 1 ≤ e → (e ≤ 256 → (m ≡ Forced → ⊥) → P case2_s)
    → ((e ≤ 256 → m ≡ Forced) → P case2_e) → P (case_for m 0 e)
unfolding case_for
by_le P m zero some short extended = absurd (omega arith)
by_le P m (suc e) some short extended =
    elim (dec_le (suc e) 256) [
      | yes h ↦ rw (le-leb (suc e) 256 h) (by_mode P m case2_s case2_e (short h) (λ f. extended (λ _. f)))
      | no h ↦
          let long = extended (λ g. absurd (omega arith)) in
          rw (lt-leb (suc e) 256 (omega arith)) (by_mode P m case2_e case2_e (λ _. long) (λ _. long))
    ]

-- the same for data (rules 3.4 and 3.5)
pub by_data : (P : Case → Type 0) (m : ExtendedLen) (n e : ℕ) → 1 ≤ n → (n ≤ 255 → e ≤ 256 → (m ≡ Forced → ⊥) → P (after_short e))
    → ((n ≤ 255 → e ≤ 256 → m ≡ Forced) → P (after_extended e)) → P (case_for m n e)
unfolding case_for
by_data P m zero e some short extended = absurd (omega arith)
by_data P m (suc n) e some short extended =
    elim (dec_le (suc n) 255) [
      | yes h ↦
          elim (dec_le e 256) [
            | yes g ↦
                rw (le-ltb 255 (suc n) h, le-ltb 256 e g)
                (by_mode P m (after_short e) (after_extended e) (short h g) (λ f. extended (λ _ _. f)))
            | no g ↦ rw (le-ltb 255 (suc n) h, lt-ltb 256 e (omega arith)) (extended (λ _ l. absurd (omega arith)))
          ]
      | no h ↦ rw (lt-ltb 255 (suc n) (omega arith)) (extended (λ l _. absurd (omega arith)))
    ]

-- each case is used for what `Used` says
none_used : (m : ExtendedLen) → Used (case_for m 0 0) 0 0
unfolding case_for
none_used m = (refl, refl)

short_used : (n e : ℕ) → 1 ≤ n → n ≤ 255 → e ≤ 256 → Used (after_short e) n e
short_used n zero h g l = (h, g, refl)
short_used n (suc e) h g l = (h, g, omega arith, l)

extended_used : (n e : ℕ) → 1 ≤ n → Used (after_extended e) n e
extended_used n zero h = (h, refl)
extended_used n (suc e) h = (h, omega arith)

pub case_used : (m : ExtendedLen) (n e : ℕ) → Used (case_for m n e) n e
case_used m zero zero = none_used m
case_used m zero (suc e) =
    by_le (λ x. Used x 0 (suc e)) m (suc e) (omega arith) (λ h _. (refl, omega arith, h)) (λ _. (refl, omega arith))
case_used m (suc n) e =
    by_data (λ x. Used x (suc n) e) m (suc n) e (omega arith) (λ h g _. short_used (suc n) e (omega arith) h g)
    (λ _. extended_used (suc n) e (omega arith))

-- Le 0 is omitted (rules 3.6 and 3.7)
no_le : (x : Case) (n e : ℕ) → Used x n e → e ≡ 0 → le_bytes x ≡ 0
no_le case1 n e u z = refl
no_le case2_s n e u z = absurd (omega (arith, u.1))
no_le case3_s n e u z = refl
no_le case4_s n e u z = absurd (omega (arith, u.2))
no_le case2_e n e u z = absurd (omega (arith, u.1))
no_le case3_e n e u z = refl
no_le case4_e n e u z = absurd (omega (arith, u.1))

pub le_none : (b : CommandBuilder) (n : ℕ) → le_written b ≡ 0 → le_len b n ≡ 0
unfolding le_len case_of
le_none b n h = no_le (case_for b.mode n (le_written b)) n (le_written b) (case_used b.mode n (le_written b)) h

-- the bytes of Lc and Le with data
lc_short : (e : ℕ) → lc_bytes (after_short e) ≡ 1
lc_short zero = refl
lc_short (suc e) = refl

lc_extended : (e : ℕ) → lc_bytes (after_extended e) ≡ 3
lc_extended zero = refl
lc_extended (suc e) = refl

le_extended : (e : ℕ) → 1 ≤ e → le_bytes (after_extended e) ≡ 2
le_extended zero h = absurd (omega arith)
le_extended (suc e) h = refl

-- more than 255 data bytes take an Lc of three bytes and an Le of two, in every mode (rule 4.2)
pub lc_long : (b : CommandBuilder) (n : ℕ) → 255 < n → lc_len b n ≡ 3
unfolding lc_len case_of
lc_long b n h =
    by_data (λ x. lc_bytes x ≡ 3) b.mode n (le_written b) (omega arith) (λ few _ _. absurd (omega arith))
    (λ _. lc_extended (le_written b))

pub le_long : (b : CommandBuilder) (n : ℕ) → 255 < n → 1 ≤ le_written b → le_len b n ≡ 2
unfolding le_len case_of
le_long b n h g =
    by_data (λ x. le_bytes x ≡ 2) b.mode n (le_written b) (omega arith) (λ few _ _. absurd (omega arith))
    (λ _. le_extended (le_written b) g)

-- fewer data without Le have no longer Lc
lc_more : (m : ExtendedLen) (k n e : ℕ) → 1 ≤ k → k ≤ n → lc_bytes (case_for m k 0) ≤ lc_bytes (case_for m n e)
lc_more m k n e some h =
    let part = lc_bytes (case_for m k 0) in
    by_data (λ x. part ≤ lc_bytes x) m n e (omega arith)
    (λ few _ free. rw (lc_short e) (by_data (λ x. lc_bytes x ≤ 1) m k 0 some (λ _ _ _. omega arith)
    (λ forced. absurd (free (forced (omega arith) (omega arith))))))
    (λ _. rw (lc_extended e) (case_few (case_for m k 0)).0)

lc_none : (m : ExtendedLen) → lc_bytes (case_for m 0 0) ≡ 0
unfolding case_for
lc_none m = refl

lc_fewer : (m : ExtendedLen) (k n e : ℕ) → k ≤ n → lc_bytes (case_for m k 0) ≤ lc_bytes (case_for m n e)
lc_fewer m zero n e h = omega (arith, lc_none m)
lc_fewer m (suc k) n e h = lc_more m (suc k) n e (omega arith) h

-- so a part without Le has no longer Lc than the whole command
pub lc_part : (a b : CommandBuilder) (k n : ℕ) → a.mode ≡ b.mode → le_written a ≡ 0 → k ≤ n → lc_len a k ≤ lc_len b n
unfolding lc_len case_of
lc_part a b k n m e h = rw (e, m) (lc_fewer b.mode k n (le_written b) h)
