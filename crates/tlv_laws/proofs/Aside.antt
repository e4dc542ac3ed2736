-- What a lookup leaves aside: the values passed over, and what stands after the part entered last. Whatever bytes stand
-- there, the lookup is the same (rules 6.11 and 6.14).
use Prim.Native.Nat.{ℕ, ◌+◌, ◌≤◌, ◌<◌}
use mathlib.Core.Path.{◌≡◌, sym, ◌∙◌}
use mathlib.Core.Bool.{true, false, cond}
use mathlib.Core.List.{List}
use native.Mathlib.Nat.{zero-add}
use native.Mathlib.Omega.{arith}
use lib.Dec.{ltb}
use lib.ListN.{length, get_or, drop, length-drop}
use lib.Seq.{get_or-drop}
use borrow.Author.Tests.{ltb-true}
use Rattle.basis.specs.Reply.{ok}
use Rattle.basis.proofs.Reply.{by_reply}
use Rattle.tlv.specs.Lookup.{Found, span_of, lookup, value_in}
use Rattle.tlv.specs.declared.Reading.{Reading}
use Rattle.tlv.proofs.Walk.{lookup_inside}
use Rattle.basis.proofs.Every.{every_weaken}
use Rattle.tlv_laws.specs.Skipped.{passed, last_entered, end_of}
use Rattle.tlv_laws.specs.Skipped.{covers, covered_by, after_last, aside, refill, seen_to, seen}
use Rattle.tlv_laws.proofs.TruthValues.{second_alone}
use Rattle.tlv_laws.proofs.Covered.{Before, covers_ahead, covers_after, uncovered}
use Rattle.tlv_laws.proofs.Covered.{covered_first, covered_later, length_fill, byte_fill}
use Rattle.tlv_laws.proofs.Skipped.{take_same, lookup_outside, last_found, seen_to_found, seen_to_refused, unseen}

-- what stands after the part entered last is left aside; no place before the end of that part is
pub after_aside : (r : Reading) (s path : List ℕ) (i : ℕ) → (last_entered r s path).at + (last_entered r s path).len ≤ i → i < length s
    → covered_by (aside r s path) i ≡ true
after_aside r s path i h g = covered_first (after_last r s path) (passed r s path) i (omega arith) (omega arith)

before_after : (r : Reading) (s path : List ℕ) (i : ℕ) → i < end_of (last_entered r s path) → covers (after_last r s path) i ≡ false
before_after r s path i h = covers_ahead (after_last r s path) i (omega arith)

-- a place that a lookup looks at is outside of the values passed over, before the value found, and before the end of
-- the part entered last
module _ (r : Reading) (s path : List ℕ) where
  pub seen_only : (i : ℕ) → seen r s path i ≡ true → (covered_by (passed r s path) i ≡ false)
      × ((p : Found) → lookup r s path ≡ ok p → i < p.at) × (i < (last_entered r s path).at + (last_entered r s path).len)
  seen_only i h =
      let g = second_alone (covered_by (passed r s path) i) (ltb i (seen_to r s path)) h in
      let before = ltb-true i (seen_to r s path) g.1 in
      let found : (p : Found) → lookup r s path ≡ ok p → i < p.at = λ p e. omega (arith, seen_to_found r s path p e) in (
        g.0,
        found,
        by_reply (lookup r s path) (λ p e. rw (last_found r s path p e) (omega (arith, found p e)))
            (λ k e. omega (arith, seen_to_refused r s path k e)),
      )

  -- the values passed over are left aside too
  pub passed_aside : (i : ℕ) → covered_by (passed r s path) i ≡ true → covered_by (aside r s path) i ≡ true
  passed_aside i h = covered_later (after_last r s path) (passed r s path) i h

  -- a place that a lookup looks at is not left aside, and neither is a place of the value found
  seen_stays : (i : ℕ) → seen r s path i ≡ true → covered_by (aside r s path) i ≡ false
  unfolding covered_by
  seen_stays i h =
      let g = seen_only i h in
      rw (before_after r s path i (omega arith)) g.0

  found_stays : (p : Found) → lookup r s path ≡ ok p → (i : ℕ) → p.at ≤ i → i < p.at + p.len → covered_by (aside r s path) i ≡ false
  unfolding covered_by
  found_stays p e i h g =
      rw (before_after r s path i (rw (last_found r s path p e) g))
      (uncovered (passed r s path) i (every_weaken (λ q. covers q i ≡ false) (Before (span_of p)) (passed r s path)
      (λ q g. covers_after q i (omega arith)) (lookup_outside r s path p e)))

  -- a record of the same length with the same bytes at every place that is not left aside has the same lookup, and
  -- shows the same value
  module _ (s' : List ℕ) (long : length s' ≡ length s)
      (same : (i : ℕ) → i < length s → covered_by (aside r s path) i ≡ false → get_or s' i 0 ≡ get_or s i 0) where
    pub aside_unseen : lookup r s' path ≡ lookup r s path
    aside_unseen = unseen r s s' path long (λ i h g. same i h (seen_stays i g))

    pub aside_value : value_in s' (lookup r s' path) ≡ value_in s (lookup r s path)
    aside_value =
        rw aside_unseen (by_reply (lookup r s path) (λ p e.
        let l = lookup_inside r s path p e in
        rw e (take_same p.len (drop p.at s') (drop p.at s) (simp (length-drop, long) (omega arith))
        (simp length-drop (omega arith)) (λ i h.
        get_or-drop p.at s' i 0 ∙ same (p.at + i) (omega arith) (found_stays p e (p.at + i) (omega arith) (omega arith))
        ∙ sym (get_or-drop p.at s i 0))))
        (λ k e. rw e))

module _ (f : ℕ → ℕ) (r : Reading) (s path : List ℕ) where
  -- the record keeps its length
  pub refilled_length : length (refill f r s path) ≡ length s
  refilled_length = length_fill f (aside r s path) 0 s

  -- at each place that is left aside the byte is that of f; all other bytes stay
  pub refilled_byte : (i : ℕ) → i < length s → get_or (refill f r s path) i 0 ≡ cond (covered_by (aside r s path) i) (f i) (get_or s i 0)
  refilled_byte i h = rw zero-add at (byte_fill f (aside r s path) 0 s i h)

  refilled_same : (i : ℕ) → i < length s → covered_by (aside r s path) i ≡ false → get_or (refill f r s path) i 0 ≡ get_or s i 0
  refilled_same i h g = refilled_byte i h ∙ rw g

  -- whatever bytes stand in the values passed over and after the part entered last, the lookup is the same
  pub refilled : lookup r (refill f r s path) path ≡ lookup r s path
  refilled = aside_unseen r s path (refill f r s path) refilled_length refilled_same

  -- and shows the same value
  pub refilled_value : value_in (refill f r s path) (lookup r (refill f r s path) path) ≡ value_in s (lookup r s path)
  refilled_value = aside_value r s path (refill f r s path) refilled_length refilled_same
