-- The form of a file, test by test (rules 17.5 and 17.6), and what is read in it.
use Prim.Native.Nat.{ℕ, zero, suc, ◌+◌, ◌≤◌, ◌<◌}
use mathlib.Core.Path.{◌≡◌, refl, sym, ap, ◌∙◌}
use mathlib.Core.Bool.{true, false, cond}
use mathlib.Core.List.{List, [], ◌∷◌}
use native.Mathlib.Omega.{arith}
use native.Mathlib.Numerals.{add-one}
use borrow.Author.Tests.{eq-eqb, ne_eqb, le-leb, lt-leb, leb-true, eqb-true}
use lib.Dec.{leb, eqb}
use lib.ListN.{length}
use Rattle.basis.specs.Reply.{ok, refused}
use Rattle.basis.proofs.Truth.{on_cond, both_true}
use Rattle.tlv_index.specs.Index.{Kind}
use Rattle.tlv_index.specs.File.{
  field,
  places_count,
  lengths_count,
  end_count,
  file_size,
  entry_in,
  entries_from,
  index_in,
  is_reason,
  ends_as,
  counts_agree,
  is_file,
  decoded,
  checked,
}

-- a reason is 11 or 12
pub reason_end : (k : ℕ) → k ≡ 11 → is_reason k ≡ true
unfolding is_reason
reason_end k e = rw (eq-eqb k 11 e)

pub reason_other : (k : ℕ) → (k ≡ 11 → ⊥) → is_reason k ≡ eqb k 12
unfolding is_reason
reason_other k e = rw (ne_eqb k 11 e)

module _ (w n : ℕ) (f : List ℕ) where
  pub one_end : field 2 (end_count w n) f ≡ 1 → ends_as w n f ≡ is_reason (field 2 (end_count w n + 2) f)
  unfolding ends_as
  one_end e = rw (eq-eqb _ 1 e)

  pub counts_same : field 2 (places_count w n) f ≡ n → field 2 (lengths_count w n) f ≡ n → counts_agree w n f ≡ ends_as w n f
  unfolding counts_agree
  counts_same e g = rw (eq-eqb _ n e, eq-eqb _ n g)

  -- as many entries as are asked for
  pub length_entries : (k i : ℕ) → length (entries_from w n f i k) ≡ k
  unfolding entries_from
  length_entries zero i = refl
  length_entries (suc k) i = ap suc (length_entries k (suc i))

  -- the entries from number i on: none is left, or entry i and those after it
  pub entries_end : (i k : ℕ) → k ≡ 0 → entries_from w n f i k ≡ []
  unfolding entries_from
  entries_end i k e = rw e

  pub entries_next : (i k : ℕ) → entries_from w n f i (suc k) ≡ entry_in w n f i ∷ entries_from w n f (i + 1) k
  unfolding entries_from
  entries_next i k = rw (add-one i)

  -- the counts and the reason of a file
  pub counts_parts : counts_agree w n f ≡ true → (field 2 (places_count w n) f ≡ n) × (field 2 (lengths_count w n) f ≡ n) × (ends_as w n f ≡ true)
  unfolding counts_agree
  counts_parts h =
      let places = both_true (eqb (field 2 (places_count w n) f) n) (cond (eqb (field 2 (lengths_count w n) f) n) (ends_as w n f) false) h in
      let lengths = both_true (eqb (field 2 (lengths_count w n) f) n) (ends_as w n f) places.1 in
      (eqb-true _ n places.0, eqb-true _ n lengths.0, lengths.1)

  pub end_parts : ends_as w n f ≡ true → (field 2 (end_count w n) f ≡ 1) × (is_reason (field 2 (end_count w n + 2) f) ≡ true)
  unfolding ends_as
  end_parts h = let one = both_true (eqb (field 2 (end_count w n) f) 1) (is_reason (field 2 (end_count w n + 2) f)) h in (eqb-true _ 1 one.0, one.1)

-- a number that is a reason, and not 11, is 12
pub reason_12 : (k : ℕ) → is_reason k ≡ true → (k ≡ 11 → ⊥) → k ≡ 12
reason_12 k h n = eqb-true k 12 (sym (reason_other k n) ∙ h)

-- a file whose first count is n
module _ (w n : ℕ) (f : List ℕ) (e : n ≡ field 2 0 f) where
  pub too_many : 255 < n → is_file w f ≡ false
  unfolding is_file
  too_many h = rw (← e, lt-leb n 255 h)

  pub other_size : n ≤ 255 → (length f ≡ file_size w n → ⊥) → is_file w f ≡ false
  unfolding is_file
  other_size h g = rw (← e, le-leb n 255 h, ne_eqb _ _ g)

  pub right_size : n ≤ 255 → length f ≡ file_size w n → is_file w f ≡ counts_agree w n f
  unfolding is_file
  right_size h g = rw (← e, le-leb n 255 h, eq-eqb _ _ g)

  -- what holds of a file: few entries, its size, the counts, and a reason to end
  pub file_parts : is_file w f ≡ true → (n ≤ 255) × (length f ≡ file_size w n) × (counts_agree w n f ≡ true)
  unfolding is_file
  file_parts h =
      let few = both_true (leb n 255) (cond (eqb (length f) (file_size w n)) (counts_agree w n f) false) (rw (← e) at h) in
      let size = both_true (eqb (length f) (file_size w n)) (counts_agree w n f) few.1 in
      (leb-true n 255 few.0, eqb-true (length f) (file_size w n) size.0, size.1)

  pub file_reason : is_file w f ≡ true → is_reason (field 2 (end_count w n + 2) f) ≡ true
  file_reason h = (end_parts w n f (counts_parts w n f (file_parts h).2).2).1

  -- how many entries a file has
  pub checked_ok : (k : Kind) → k.width ≡ w → is_file w f ≡ true → checked k f ≡ ok n
  unfolding checked decoded index_in
  checked_ok k u h = rw (u, h, length_entries w (field 2 0 f) f (field 2 0 f) 0, e)

pub checked_refused : (k : Kind) (f : List ℕ) → is_file k.width f ≡ false → checked k f ≡ refused 25
unfolding checked decoded
checked_refused k f h = rw h

-- a file has at least ten bytes
pub too_short : (w : ℕ) (f : List ℕ) → length f < 10 → is_file w f ≡ false
unfolding is_file
too_short w f h =
    let n = field 2 0 f in
    on_cond (λ b. b ≡ false) (leb n 255) _ false (λ _. rw (ne_eqb (length f) (file_size w n) (λ g. omega arith))) (λ _. refl)
