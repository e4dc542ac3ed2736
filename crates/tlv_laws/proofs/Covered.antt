-- Places in a part and in one of several parts, and a list with other bytes at these places.
use Prim.Native.Nat.{ℕ, zero, suc, ◌+◌, ◌≤◌, ◌<◌}
use mathlib.Core.Path.{◌≡◌, refl, ap}
use mathlib.Core.Bool.{true, false, cond, false≢true}
use mathlib.Core.List.{List, [], ◌∷◌, ◌++◌}
use native.Mathlib.Nat.{add-zero, suc-add, add-suc}
use native.Mathlib.Omega.{arith}
use lib.Dec.{leb}
use lib.ListN.{length, get_or}
use borrow.Author.Tests.{ltb-true, lt-ltb, le-ltb, le-leb, lt-leb}
use Rattle.basis.specs.Every.{Every}
use Rattle.basis.proofs.Truth.{both_true, on_cond}
use Rattle.tlv.specs.Lookup.{Span}
use Rattle.tlv_laws.specs.Skipped.{covers, covered_by, fill_in}
use Rattle.tlv_laws.proofs.TruthValues.{by_test, neither}

-- places outside of a part, and outside of all parts of a list
pub covers_ahead : (q : Span) (i : ℕ) → i < q.at → covers q i ≡ false
unfolding covers
covers_ahead q i h = rw (lt-leb q.at i h)

pub covers_after : (q : Span) (i : ℕ) → q.at + q.len ≤ i → covers q i ≡ false
unfolding covers
covers_after q i h = rw (le-leb q.at i (omega arith), le-ltb i (q.at + q.len) h)

pub uncovered : (qs : List Span) (i : ℕ) → Every (λ q. covers q i ≡ false) qs → covered_by qs i ≡ false
unfolding covered_by
uncovered [] i h = refl
uncovered (q ∷ qs) i h = rw h.0 (uncovered qs i h.1)

pub uncovered_append : (xs ys : List Span) (i : ℕ) → covered_by xs i ≡ false → covered_by ys i ≡ false → covered_by (xs ++ ys) i ≡ false
unfolding covered_by
uncovered_append [] ys i h g = g
uncovered_append (q ∷ qs) ys i h g =
    let n = neither (covers q i) (covered_by qs i) h in
    rw n.0 (uncovered_append qs ys i n.1 g)

-- a place in a part, and in one of several parts
pub covered_first : (q : Span) (qs : List Span) (i : ℕ) → q.at ≤ i → i < q.at + q.len → covered_by (q ∷ qs) i ≡ true
unfolding covered_by covers
covered_first q qs i h g = rw (le-leb q.at i h, lt-ltb i (q.at + q.len) g)

pub covered_later : (q : Span) (qs : List Span) (i : ℕ) → covered_by qs i ≡ true → covered_by (q ∷ qs) i ≡ true
unfolding covered_by
covered_later q qs i h = on_cond (λ b. b ≡ true) (covers q i) _ _ (λ _. refl) (λ _. h)

pub covered_left : (xs ys : List Span) (i : ℕ) → covered_by xs i ≡ true → covered_by (xs ++ ys) i ≡ true
unfolding covered_by
covered_left [] ys i h = absurd (false≢true h)
covered_left (q ∷ qs) ys i h = by_test (covers q i) (λ g. rw g) (λ g. rw g (covered_left qs ys i (rw g at h)))

pub covered_right : (xs ys : List Span) (i : ℕ) → covered_by ys i ≡ true → covered_by (xs ++ ys) i ≡ true
covered_right [] ys i h = h
covered_right (q ∷ qs) ys i h = covered_later q (qs ++ ys) i (covered_right qs ys i h)

-- a part that ends where p starts, or before
abbrev pub Before : Span → Span → Type 0
Before p q = q.at + q.len ≤ p.at

pub covered_before : (p : Span) (qs : List Span) (i : ℕ) → Every (Before p) qs → covered_by qs i ≡ true → i < p.at
unfolding covered_by covers
covered_before p [] i h e = absurd (false≢true e)
covered_before p (q ∷ qs) i h e =
    by_test (covers q i) (λ g. omega (arith, h.0, ltb-true i (q.at + q.len) (both_true (leb q.at i) _ g).1))
    (λ g. covered_before p qs i h.1 (rw g at e))

-- a list with other bytes in some parts: its length, and each of its bytes
pub length_fill : (f : ℕ → ℕ) (qs : List Span) (a : ℕ) (s : List ℕ) → length (fill_in f qs a s) ≡ length s
unfolding fill_in
length_fill f qs a [] = refl
length_fill f qs a (b ∷ s) = ap suc (length_fill f qs (suc a) s)

pub byte_fill : (f : ℕ → ℕ) (qs : List Span) (a : ℕ) (s : List ℕ) (i : ℕ) → i < length s
    → get_or (fill_in f qs a s) i 0 ≡ cond (covered_by qs (a + i)) (f (a + i)) (get_or s i 0)
unfolding fill_in
byte_fill f qs a [] i h = absurd (omega arith)
byte_fill f qs a (b ∷ s) zero h = rw add-zero
byte_fill f qs a (b ∷ s) (suc i) h = rw (byte_fill f qs (suc a) s i (omega arith), suc-add, add-suc)
