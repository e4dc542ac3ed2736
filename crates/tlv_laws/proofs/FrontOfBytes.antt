-- What is read at the front of a list depends only on the bytes that it takes: a tag, a length, an object, the next
-- object after padding.
use Prim.Native.Nat.{ℕ, zero, suc, ◌+◌, ◌-◌, ◌≤◌, ◌<◌}
use mathlib.Core.Path.{◌≡◌, refl, sym, ap, ◌∙◌}
use mathlib.Core.Bool.{true}
use mathlib.Core.List.{List, [], ◌∷◌}
use native.Mathlib.Nat.{zero-add, suc-add}
use native.Mathlib.Omega.{arith}
use lib.Dec.{leb, eqb}
use lib.ListN.{length, get_or, take, drop, length-take, length-drop}
use lib.Seq.{get_or-take, take-take, take-nil}
use borrow.Author.Tests.{le-leb, eqb-true, eqb-false}
use Rattle.basis.specs.Reply.{ok}
use Rattle.basis.proofs.Reply.{All, by_reply, all_is, all_cond, all_then}
use Rattle.tlv.specs.Tag.{tag_of}
use Rattle.tlv.specs.Len.{len_of}
use Rattle.tlv.specs.Padding.{zeros, padding}
use Rattle.tlv.specs.Object.{Object, object_of, Item, next_of, size_of}
use Rattle.tlv.specs.declared.Reading.{Reading}
use Rattle.tlv.specs.declared.Reading.TheVariants.{Crate, Standard}
use Rattle.tlv.proofs.Zeros.{zero_first, other_first, padding_within}
use Rattle.tlv.proofs.Within.{object_inside}
use Rattle.tlv.proofs.Tags.{tag_one, tag_two, tag_three, by_tag}
use Rattle.tlv_laws.proofs.TruthValues.{by_test}
use Rattle.tlv.proofs.Lengths.{len_in_both_readings, short_length, after_81, after_82, by_length}

-- the first n + m bytes without the first n
drop_front : (n m : ℕ) (l : List ℕ) → drop n (take (n + m) l) ≡ take m (drop n l)
drop_front zero m l = rw zero-add
drop_front (suc n) m [] = rw (suc-add, take-nil)
drop_front (suc n) m (x ∷ l) = rw suc-add (drop_front n m l)

-- two lists with the same first k bytes have every shorter front, and the bytes after that front, in common
module _ (s s' : List ℕ) (k : ℕ) (e : take k s' ≡ take k s) where
  pub front_less : (n : ℕ) → n ≤ k → take n s' ≡ take n s
  front_less n h = sym (take-take n k s' h) ∙ ap (take n) e ∙ take-take n k s h

  pub front_rest : (n m : ℕ) → n + m ≡ k → take m (drop n s') ≡ take m (drop n s)
  front_rest n m h =
      sym (drop_front n m s') ∙ rw h (ap (drop n) e) ∙ drop_front n m s

  long : (j : ℕ) → j ≤ k → j ≤ length s → j ≤ length s'
  long j h g = omega (arith, ap length e, length-take k s, length-take k s')

  same : (j : ℕ) → j < k → get_or s' j 0 ≡ get_or s j 0
  same j h = sym (get_or-take k s' j 0 h) ∙ ap (λ (l : List ℕ). get_or l j 0) e ∙ get_or-take k s j 0 h

module _ (s s' : List ℕ) where
  abbrev Front : ℕ → Type 0
  Front k = take k s' ≡ take k s

  pub tag_front : (r : Reading) → All (λ t. Front t.size → tag_of r s' ≡ ok t) (tag_of r s)
  tag_front r =
      by_tag r s (All (λ t. Front t.size → tag_of r s' ≡ ok t)) (λ _. tt) (λ _. tt)
      (λ h n e.
      let m = same s s' 1 e 0 (omega arith) in
      rw (← m) (tag_one r s' (long s s' 1 e 1 (omega arith) h) (λ z. n (omega (arith, m, z)))))
      (λ f h z e.
      let m = same s s' 2 e 0 (omega arith) in
      let n = same s s' 2 e 1 (omega arith) in
      rw (← m, ← n) (tag_two r s' (omega (arith, m, f)) (long s s' 2 e 2 (omega arith) h) (rw n z)))
      (λ f h z w t e.
      let m = same s s' 3 e 0 (omega arith) in
      let n = same s s' 3 e 1 (omega arith) in
      let k = same s s' 3 e 2 (omega arith) in
      rw (← m, ← n, ← k) (tag_three r s' (omega (arith, m, f)) (long s s' 3 e 3 (omega arith) h) (rw n z) (rw n w) (rw k t)))

  len_front : (r : Reading) → All (λ l. Front l.size → len_of r s' ≡ ok l) (len_of r s)
  len_front r =
      by_length s r (All (λ l. Front l.size → len_of r s' ≡ ok l)) tt
      (λ h g e.
      let m = same s s' 1 e 0 (omega arith) in
      len_in_both_readings r s' ∙ rw (← m) (short_length s' (long s s' 1 e 1 (omega arith) h) (omega (arith, m, g))))
      (λ h g e.
      let m = same s s' 2 e in
      let l = long s s' 2 e in
      len_in_both_readings r s' ∙ rw (← m 1 (omega arith))
      (after_81 s' (l 1 (omega arith) (omega arith)) (m 0 (omega arith) ∙ g) (l 2 (omega arith) h)))
      (λ h g e.
      let m = same s s' 3 e in
      let l = long s s' 3 e in
      len_in_both_readings r s' ∙ rw (← m 1 (omega arith), ← m 2 (omega arith))
      (after_82 s' (l 1 (omega arith) (omega arith)) (m 0 (omega arith) ∙ g) (l 3 (omega arith) h)))

-- an object is read in every list that has its tag and length in front and room for its value
object_all : (r : Reading) (s s' : List ℕ)
    → All (λ o. take o.at s' ≡ take o.at s → o.at + o.len ≤ length s' → object_of r s' ≡ ok o) (object_of r s)
unfolding object_of
object_all r s s' =
    let P : Object → Type 0 = λ o. take o.at s' ≡ take o.at s → o.at + o.len ≤ length s' → object_of r s' ≡ ok o in
    all_then P _ (tag_of r s) _ (tag_front s s' r) (λ t f.
    all_then P _ (len_of r (drop t.size s)) _ (len_front (drop t.size s) (drop t.size s') r) (λ l g.
    all_cond P (leb l.number (length s - (t.size + l.size))) _ _
    (λ _ e h.
    let n = t.size in
    let m = l.size in
    let room : leb l.number (length s' - (n + m)) ≡ true = le-leb l.number (length s' - (n + m)) (omega arith) in
    rw (f (front_less s s' (n + m) e n (omega arith)), g (front_rest s s' (n + m) e n m refl), room))
    (λ _. tt)))

object_front : (r : Reading) (s s' : List ℕ) (o : Object) → object_of r s ≡ ok o → take o.at s' ≡ take o.at s
    → o.at + o.len ≤ length s' → object_of r s' ≡ ok o
object_front r s s' o e =
    all_is (λ o. take o.at s' ≡ take o.at s → o.at + o.len ≤ length s' → object_of r s' ≡ ok o) (object_of r s) o
    (object_all r s s') e

-- padding that ends within the bytes in common is the same
zeros_front : (s s' : List ℕ) (k : ℕ) → take k s' ≡ take k s → zeros s < k → k ≤ length s → zeros s' ≡ zeros s
zeros_front s s' zero e h g = absurd (omega arith)
zeros_front [] s' (suc k) e h g = absurd (omega arith)
zeros_front (b ∷ s) [] (suc k) e h g = absurd (omega (arith, ap length e))
zeros_front (b ∷ s) (c ∷ s') (suc k) e h g =
    let first : c ≡ b = ap (λ (l : List ℕ). get_or l 0 0) e in
    by_test (eqb b 0)
    (λ f.
    let z = eqb-true b 0 f in
    let more = zero_first b s z in
    let rest = zeros_front s s' k (ap (drop 1) e) (omega (arith, more, h)) (omega (arith, g)) in
    zero_first c s' (first ∙ z) ∙ ap suc rest ∙ sym more)
    (λ f. let n = eqb-false b 0 f in other_first c s' (λ z. n (sym first ∙ z)) ∙ sym (other_first b s n))

pub padding_front : (r : Reading) (s s' : List ℕ) (k : ℕ) → take k s' ≡ take k s → padding r s < k → k ≤ length s
    → padding r s' ≡ padding r s
unfolding padding
padding_front Crate s s' k e h g = refl
padding_front Standard s s' k e h g = zeros_front s s' k e h g

-- so the next object is read in every list that has its padding, tag and length in front and room for its value
next_all : (r : Reading) (s s' : List ℕ)
    → All (λ i. take i.at s' ≡ take i.at s → size_of i ≤ length s' → next_of r s' ≡ ok i) (next_of r s)
unfolding next_of
next_all r s s' =
    let n = padding r s in
    by_reply (object_of r (drop n s)) (λ o e.
    let w = object_inside r (drop n s) o e in
    rw e (λ same room.
    let pad = padding_front r s s' (n + o.at) same (omega (arith, w)) (omega (arith, w, length-drop n s, padding_within r s)) in
    let read = object_front r (drop n s) (drop n s') o e (front_rest s s' (n + o.at) same n o.at refl)
    (simp length-drop (omega (arith, room))) in
    rw (pad, read)))
    (λ k e. rw e tt)

pub next_front : (r : Reading) (s s' : List ℕ) (i : Item) → next_of r s ≡ ok i → take i.at s' ≡ take i.at s
    → size_of i ≤ length s' → next_of r s' ≡ ok i
next_front r s s' i e =
    all_is (λ i. take i.at s' ≡ take i.at s → size_of i ≤ length s' → next_of r s' ≡ ok i) (next_of r s) i (next_all r s s') e
