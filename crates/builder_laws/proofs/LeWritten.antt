-- The expected length that is written: the one asked for, but short mode lowers it to at most 256 (rule 3.3). And when
-- lengths are extended (rules 3.4 and 3.7).
use Prim.Native.Nat.{ℕ, zero, suc, ◌+◌, ◌≤◌, ◌<◌}
use mathlib.Core.Path.{◌≡◌, refl, ap}
use mathlib.Core.Bool.{true, false}
use native.Mathlib.Decide.{dec_le}
use native.Mathlib.Omega.{arith}
use borrow.Author.Tests.{le-leb, lt-leb}
use Rattle.builder.specs.Cases.{after_short, after_extended, case_for}
use Rattle.builder.specs.Bytes.{le_number, lowered_len, lowered_of, le_written, case_of}
use Rattle.builder.specs.declared.ExpectedLen.{ExpectedLen}
use Rattle.builder.specs.declared.ExpectedLen.TheVariants.{Ne, Max}
use Rattle.builder.specs.declared.ExtendedLen.{ExtendedLen}
use Rattle.builder.specs.declared.ExtendedLen.TheVariants.{Unsupported, Supported, Forced}
use Rattle.builder.specs.declared.CommandBuilder.{CommandBuilder}
use Rattle.builder_laws.specs.Read.{Expected, is_extended, extended_for, LeRead, ExtendedRead}
use Rattle.builder_laws.proofs.Cases.{by_le, by_data}

-- a number that is not lowered, one that is, and Max that is not
not_lowered : (m : ExtendedLen) (n : ℕ) → (m ≡ Unsupported → n ≤ 256) → lowered_len m (Ne n) ≡ Ne n
not_lowered Unsupported n h = rw (le-leb n 256 (h refl))
not_lowered Supported n h = refl
not_lowered Forced n h = refl

lowered_to_256 : (m : ExtendedLen) (n : ℕ) → m ≡ Unsupported → 256 < n → lowered_len m (Ne n) ≡ Ne 256
lowered_to_256 m n k h = rw (k, lt-leb n 256 h)

max_not_lowered : (m : ExtendedLen) → (m ≡ Unsupported → ⊥) → lowered_len m Max ≡ Max
max_not_lowered Unsupported h = absurd (h refl)
max_not_lowered Supported h = refl
max_not_lowered Forced h = refl

-- a lowered expected length is still an expected length
pub lowered_expected : (m : ExtendedLen) (e : ExpectedLen) → Expected e → Expected (lowered_len m e)
lowered_expected Unsupported (Ne n) h =
    elim (dec_le n 256) [ yes g ↦ rw (le-leb n 256 g) h | no g ↦ rw (lt-leb n 256 (omega arith)) (omega arith) ]
lowered_expected Unsupported Max h = omega arith
lowered_expected Supported e h = h
lowered_expected Forced e h = h

-- the expected lengths: the numbers to 65,535, and Max (rule 3.1)
pub expected : ((n : ℕ) → n ≤ 65535 → Expected (Ne n)) × Expected Max
expected = ((λ n h. omega (arith, h)), omega arith)

-- they are at most 65,536
le_at_most_65536 : (e : ExpectedLen) → Expected e → le_number e ≤ 65536
le_at_most_65536 (Ne n) h = omega arith
le_at_most_65536 Max h = omega arith

-- in short mode the lowered one is a number of at most 256
short_lowered : (e : ExpectedLen) → (lowered_len Unsupported e ≡ Ne (le_number (lowered_len Unsupported e))) × (le_number (lowered_len Unsupported e) ≤ 256)
short_lowered (Ne n) =
    elim (dec_le n 256) [ yes h ↦ rw (le-leb n 256 h) (refl, h) | no h ↦ rw (lt-leb n 256 (omega arith)) (refl, omega arith) ]
short_lowered Max = (refl, omega arith)

-- a lowered one is not lowered again
lowered_again : (m : ExtendedLen) (e : ExpectedLen) → lowered_len m (lowered_len m e) ≡ lowered_len m e
lowered_again Unsupported e =
    let s = short_lowered e in
    let n = le_number (lowered_len Unsupported e) in
    rw (s.0, le-leb n 256 s.1)
lowered_again Supported e = refl
lowered_again Forced e = refl

-- the written Le, by the expected length and the mode
pub le_read : (b : CommandBuilder) → LeRead b
unfolding le_written
le_read b =
    let m = b.mode in
    record {
      number = λ n e h. rw (e, not_lowered m n h);
      number_lowered = λ n e k h. rw (e, lowered_to_256 m n k h);
      most = λ e h. rw (e, max_not_lowered m h);
      most_lowered = λ e k. rw (e, k);
    }

module _ (b : CommandBuilder) where
  -- its bounds in every mode, and in short mode
  pub written_le : Expected b.le → le_written b ≤ 65536
  unfolding le_written
  written_le h = le_at_most_65536 (lowered_len b.mode b.le) (lowered_expected b.mode b.le h)

  pub written_short : b.mode ≡ Unsupported → le_written b ≤ 256
  unfolding le_written
  written_short m = rw m (short_lowered b.le).1

  -- a lowered builder: it is not lowered again, its written Le is the same, and in short mode its Le is just that
  pub lowered_twice : lowered_of (lowered_of b) ≡ lowered_of b
  lowered_twice =
      let e = lowered_again b.mode b.le in
      λ i. record { class = b.class; instruction = b.instruction; p1 = b.p1; p2 = b.p2; le = e i; mode = b.mode }

  pub lowered_written : le_written (lowered_of b) ≡ le_written b
  unfolding le_written
  lowered_written = ap le_number (lowered_again b.mode b.le)

  pub lowered_le : b.mode ≡ Unsupported → (lowered_of b).le ≡ Ne (le_written b)
  unfolding le_written
  lowered_le m = rw m (short_lowered b.le).0

-- the cases after a short Lc, and after an extended one
short_not : (e : ℕ) → is_extended (after_short e) ≡ false
short_not zero = refl
short_not (suc e) = refl

extended_is : (e : ℕ) → is_extended (after_extended e) ≡ true
extended_is zero = refl
extended_is (suc e) = refl

-- lengths are extended for data from 256 bytes, for an Le above 256, and if they are forced and there are any; else not
data_long : (m : ExtendedLen) (n e : ℕ) → 255 < n → is_extended (case_for m n e) ≡ true
data_long m n e h = by_data (λ x. is_extended x ≡ true) m n e (omega arith) (λ few _ _. absurd (omega arith)) (λ _. extended_is e)

le_large : (m : ExtendedLen) (n e : ℕ) → 256 < e → is_extended (case_for m n e) ≡ true
le_large m zero e h = by_le (λ x. is_extended x ≡ true) m e (omega arith) (λ low _. absurd (omega arith)) (λ _. refl)
le_large m (suc n) e h =
    by_data (λ x. is_extended x ≡ true) m (suc n) e (omega arith) (λ _ low _. absurd (omega arith)) (λ _. extended_is e)

forced : (m : ExtendedLen) (n e : ℕ) → m ≡ Forced → 1 ≤ n + e → is_extended (case_for m n e) ≡ true
forced m zero e k h = by_le (λ x. is_extended x ≡ true) m e (omega arith) (λ _ free. absurd (free k)) (λ _. refl)
forced m (suc n) e k h = by_data (λ x. is_extended x ≡ true) m (suc n) e (omega arith) (λ _ _ free. absurd (free k)) (λ _. extended_is e)

no_data_no_le : (m : ExtendedLen) → is_extended (case_for m 0 0) ≡ false
unfolding case_for
no_data_no_le m = refl

short : (m : ExtendedLen) (n e : ℕ) → n ≤ 255 → e ≤ 256 → (m ≡ Forced → n + e ≡ 0) → is_extended (case_for m n e) ≡ false
short m zero zero h g f = no_data_no_le m
short m zero (suc e) h g f =
    by_le (λ x. is_extended x ≡ false) m (suc e) (omega arith) (λ _ _. refl) (λ k. absurd (omega (arith, f (k g))))
short m (suc n) e h g f =
    by_data (λ x. is_extended x ≡ false) m (suc n) e (omega arith) (λ _ _ _. short_not e) (λ k. absurd (omega (arith, f (k h g))))

-- all of this by the data, the expected length and the mode
pub extended_read : (b : CommandBuilder) (n : ℕ) → ExtendedRead b n
unfolding extended_for case_of
extended_read b n =
    let m = b.mode in
    let e = le_written b in
    record {
      data_long = λ h. data_long m n e h;
      le_large = λ h. le_large m n e h;
      forced = λ k h. forced m n e k h;
      short = λ h g f. short m n e h g f;
    }
