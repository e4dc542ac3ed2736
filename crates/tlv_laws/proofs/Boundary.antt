-- Bytes in which a tag is refused with 11 are whole objects, none of them with that tag, and padding (rule 1.11). So
-- the bytes before a place decide whether a lookup comes there. Also: a number that is no tag matches nothing (rule
-- 6.12).
use Prim.Native.Nat.{ℕ, ◌+◌, ◌≤◌, ◌<◌}
use mathlib.Core.Path.{◌≡◌, refl, sym, ap, ◌∙◌, subst}
use mathlib.Core.Logic.{◌⊎◌, inl, inr}
use mathlib.Core.List.{List, [], ◌∷◌, ◌++◌}
use native.Mathlib.Omega.{arith}
use lib.Dec.{leb, eqb}
use lib.ListN.{length, take, drop, length-take, length-drop, length-append, drop_of_length-le}
use lib.Seq.{take-length, take-take, take-append-le, drop-append-le}
use borrow.Author.Tests.{eqb-true, eqb-false}
use Rattle.basis.specs.Number.{Bytes}
use Rattle.basis.specs.Reply.{Reply, ok, refused, then}
use Rattle.basis.proofs.Reply.{All, by_reply, refused_not_ok, all_self, all_is, all_cond, all_then, all_every}
use Rattle.basis.proofs.Number.{bytes_drop, bytes_take}
use Rattle.basis.proofs.Truth.{on_cond}
use Rattle.tlv.specs.Padding.{padding}
use Rattle.tlv.specs.Tag.{Tag, tag_of, tag_alone}
use Rattle.tlv.specs.Len.{len_of}
use Rattle.tlv.specs.Object.{Object, object_of, Item, Stop, item_at, next_of, size_of}
use Rattle.tlv.specs.Lookup.{Span, part, whole_record, seek, Found, follow, lookup}
use Rattle.tlv.specs.declared.Reading.{Reading}
use Rattle.tlv.specs.declared.Reading.TheVariants.{Standard}
use Rattle.tlv.proofs.Zeros.{first_not_zero, padding_within, padding_once, standard_padding, padding_nothing}
use Rattle.tlv.proofs.Tags.{by_tag, alone_unpadded, alone_read}
use Rattle.tlv.proofs.Lengths.{by_length}
use Rattle.tlv.proofs.Within.{next_inside}
use Rattle.tlv.proofs.Walk.{next_nothing, by_objects, seek_refused, seek_here, seek_next}
use Rattle.tlv_laws.specs.Plain.{number_only, plain}
use Rattle.tlv_laws.proofs.TruthValues.{by_test}
use Rattle.tlv_laws.proofs.FrontOfBytes.{next_front}
use Rattle.tlv_laws.proofs.Padded.{next_only, seek_padded}

-- the only refusal is 12
abbrev Only12 : {A : Type 0} → Reply A → Type 0
Only12 (ok a) = Unit {0}
Only12 (refused k) = k ≡ 12

only_then : {A B : Type 0} (x : Reply A) (f : A → Reply B) → Only12 x → ((a : A) → Only12 (f a)) → Only12 (then x f)
only_then (ok a) f h g = g a
only_then (refused k) f h g = h

tag_only : (r : Reading) (s : List ℕ) → 1 ≤ length s → Only12 (tag_of r s)
tag_only r s h =
    by_tag r s Only12 (λ n. absurd (omega arith)) (λ _. refl) (λ _ _. tt) (λ _ _ _. tt) (λ _ _ _ _ _. tt)

len_only : (r : Reading) (s : List ℕ) → Only12 (len_of r s)
len_only r s = by_length s r Only12 refl (λ _ _. tt) (λ _ _. tt) (λ _ _. tt)

object_only : (r : Reading) (s : List ℕ) → 1 ≤ length s → Only12 (object_of r s)
unfolding object_of
object_only r s h =
    only_then (tag_of r s) _ (tag_only r s h) (λ t.
    only_then (len_of r (drop t.size s)) _ (len_only r (drop t.size s)) (λ l.
    on_cond Only12 (leb l.number _) _ _ (λ _. tt) (λ _. refl)))

-- 11 is said of no bytes, and of nothing else (rules 1.11 and 1.12)
object_none : (r : Reading) → object_of r [] ≡ refused 11
unfolding object_of tag_of
object_none r = refl

pub front_refused : (r : Reading) (s : List ℕ) (k : ℕ) → object_of r s ≡ refused k
    → ((k ≡ 11) × (length s ≡ 0)) ⊎ ((k ≡ 12) × (1 ≤ length s))
front_refused r [] k e = let z : k ≡ 11 = cc (object_none r) in inl (z, refl)
front_refused r (b ∷ s) k e = inr (subst Only12 e (object_only r (b ∷ s) (omega arith)), omega arith)

-- so the next object is refused with 11 at the end of the bytes, which are padding then, and with 12 before it
-- (rules 16.3 and 16.4)
pub refused_where : (r : Reading) (s : List ℕ) (e : Stop) → next_of r s ≡ refused e
    → ((e.number ≡ 11) × (e.place ≡ length s) × (padding r s ≡ length s)) ⊎ ((e.number ≡ 12) × (e.place < length s))
unfolding next_of
refused_where r s e h =
    let n = padding r s in
    by_reply (object_of r (drop n s)) (λ o f. absurd (refused_not_ok e _ (sym (rw f at h)))) (λ k f.
    let same : record { number = k; place = n } ≡ e = cc (rw f at h) in
    let number = ap (λ (j : Stop). j.number) same in
    let place = ap (λ (j : Stop). j.place) same in
    let long = length-drop n s in
    let within = padding_within r s in
    elim (front_refused r (drop n s) k f) [
      | inl g ↦ inl (sym number ∙ g.0, omega (arith, place, long, within, g.1), omega (arith, long, within, g.1))
      | inr g ↦ inr (sym number ∙ g.0, omega (arith, place, long, within, g.1))
    ])

-- induction over bytes in which the tag t is refused with 11: what holds of padding, and of bytes with an object of
-- another tag in front if it holds of the bytes after it, holds of all of them
module _ (r : Reading) (t : ℕ) (P : ℕ → List ℕ → Type 0) (none : (a : ℕ) (x : List ℕ) → padding r x ≡ length x → P a x)
    (more : (a : ℕ) (x : List ℕ) (o : Item) → next_of r x ≡ ok o → (o.tag ≡ t → ⊥)
    → P (a + size_of o) (drop (size_of o) x) → P a x) where
  pub by_passed_objects : (a : ℕ) (x : List ℕ) → number_only (seek r t a x) ≡ refused 11 → P a x
  by_passed_objects =
      by_objects r (λ a x. number_only (seek r t a x) ≡ refused 11 → P a x)
      (λ a x k q e.
      let z : k.number ≡ 11 = cc (ap number_only (seek_refused r t a x k q)) in
      elim (refused_where r x k q) [ inl f ↦ none a x f.2 | inr f ↦ absurd (omega (arith, z, f.0)) ])
      (λ a x o q _ further e.
      by_test (eqb o.tag t) (λ g. absurd (refused_not_ok 11 _ (sym e ∙ ap number_only (seek_here r t a x o q (eqb-true o.tag t g))))) (λ g.
      let other = eqb-false o.tag t g in
      more a x o q other (further (ap number_only (sym (seek_next r t a x o q other)) ∙ e))))

module _ (r : Reading) (t : ℕ) where
  pub one_level : (x : List ℕ) → plain (lookup r x (t ∷ [])) ≡ number_only (seek r t 0 x)
  unfolding follow
  one_level x = by_reply (seek r t 0 x) (λ q e. rw (take-length x, e)) (λ k e. rw (take-length x, e))

  -- a tag refused with 11 in some bytes is refused with 11 wherever these bytes stand
  pub walked_at : (x : List ℕ) → plain (lookup r x (t ∷ [])) ≡ refused 11 → (a : ℕ) → number_only (seek r t a x) ≡ refused 11
  walked_at x h =
      by_passed_objects r t (λ _ x. (a : ℕ) → number_only (seek r t a x) ≡ refused 11)
      (λ _ x only a. ap number_only (seek_refused r t a x _ (next_only r x only)))
      (λ _ x o e other further a. ap number_only (seek_next r t a x o e other) ∙ further (a + size_of o)) 0 x (sym (one_level x) ∙ h)

  -- the search goes on after such bytes
  pub walk_on : (a : ℕ) (x y : List ℕ) → number_only (seek r t a x) ≡ refused 11 → seek r t a (x ++ y) ≡ seek r t (a + length x) y
  walk_on a x y =
      by_passed_objects r t (λ a x. seek r t a (x ++ y) ≡ seek r t (a + length x) y) (λ a x only. seek_padded r x only t a y)
      (λ a x o e other further.
      let w = next_inside r x o e in
      let k = size_of o in
      let place : a + k + length (drop k x) ≡ a + length x = simp length-drop (omega arith) in
      let read = next_front r x (x ++ y) o e (take-append-le o.at x y (omega arith)) (simp length-append (omega arith)) in
      seek_next r t a (x ++ y) o read other ∙ rw (drop-append-le k x y (omega arith), ← place) further) a x

  -- such bytes are: padding, or no bytes; such bytes after such bytes; such bytes and one more object that has another
  -- tag
  pub walked_only : (x : List ℕ) → padding r x ≡ length x → plain (lookup r x (t ∷ [])) ≡ refused 11
  walked_only x only = one_level x ∙ ap number_only (seek_refused r t 0 x _ (next_only r x only))

  pub walked_none : plain (lookup r [] (t ∷ [])) ≡ refused 11
  walked_none = walked_only [] (padding_nothing r)

  pub walked_append : (x y : List ℕ) → plain (lookup r x (t ∷ [])) ≡ refused 11 → plain (lookup r y (t ∷ [])) ≡ refused 11
      → plain (lookup r (x ++ y) (t ∷ [])) ≡ refused 11
  walked_append x y h g = one_level (x ++ y) ∙ ap number_only (walk_on 0 x y (walked_at x h 0)) ∙ walked_at y g (0 + length x)

  pub walked_next : (x y : List ℕ) (o : Item) → plain (lookup r x (t ∷ [])) ≡ refused 11 → next_of r y ≡ ok o → (o.tag ≡ t → ⊥)
      → plain (lookup r (x ++ take (o.at + o.len) y) (t ∷ [])) ≡ refused 11
  walked_next x y o h e other =
      let k = size_of o in
      let z = take k y in
      let w = next_inside r y o e in
      let read : next_of r z ≡ ok o = next_front r y z o e (take-take o.at k y (omega arith)) (simp length-take (omega arith)) in
      let empty : drop k z ≡ [] = drop_of_length-le z {i = k} (simp length-take (omega arith)) in
      walked_append x z h
      (one_level z ∙ ap number_only (seek_next r t 0 z o read other) ∙ rw empty (ap number_only (seek_refused r t (0 + k) [] _ (next_nothing r))))

-- the tag of an object is the one that is read at its front
unfoldable pub TagOf : Reading → List ℕ → Object → Type 0
TagOf r s o = (t : Tag) × ((tag_of r s ≡ ok t) × (t.number ≡ o.tag))

pub object_tag : (r : Reading) (s : List ℕ) → All (TagOf r s) (object_of r s)
unfolding object_of TagOf
object_tag r s =
    let T = TagOf r s in
    all_then T (λ t. tag_of r s ≡ ok t) (tag_of r s) _ (all_self (tag_of r s)) (λ t e.
    let rest = drop t.size s in
    all_then T (λ _. Unit {0}) (len_of r rest) _ (all_every (λ _. Unit {0}) (len_of r rest) (λ _. tt)) (λ l _.
    all_cond T (leb l.number _) _ _ (λ _. (t, (e, refl))) (λ _. tt)))

-- the tag of the next object is a tag that is read alone, at its place
pub tag_there : (r : Reading) (s : List ℕ) (i : Item) → next_of r s ≡ ok i
    → (t : Tag) × ((tag_alone r (drop i.place s) ≡ ok t) × (t.number ≡ i.tag))
unfolding next_of TagOf
tag_there r s i e =
    let n = padding r s in
    by_reply (object_of r (drop n s)) (λ o f.
    let same : item_at n o ≡ i = cc (rw f at e) in
    let place : n ≡ i.place = ap (λ (j : Item). j.place) same in
    let t = all_is (TagOf r (drop n s)) (object_of r (drop n s)) o (object_tag r (drop n s)) f in
    (t.0, (rw (← place) (alone_unpadded r (drop n s) (padding_once r s) ∙ t.1.0), t.1.1 ∙ ap (λ (j : Item). j.tag) same)))
    (λ k f. absurd (refused_not_ok _ i (rw f at e)))

-- A number that is no tag: no bytes are read as a tag of that number.
abbrev pub NoTag : Reading → ℕ → Type 0
NoTag r n = (s : List ℕ) → Bytes s → (t : Tag) → tag_alone r s ≡ ok t → t.number ≡ n → ⊥

-- It matches no object (rule 6.12): it is found in no bytes, and no path with it, at any place, leads to a value.
pub no_tag_sought : (r : Reading) (n : ℕ) → NoTag r n → (a : ℕ) (s : List ℕ) → Bytes s → (p : Span) → seek r n a s ≡ ok p → ⊥
no_tag_sought r n none =
    by_objects r (λ a s. Bytes s → (p : Span) → seek r n a s ≡ ok p → ⊥)
    (λ a s k e _ p q. refused_not_ok _ p (sym (seek_refused r n a s k e) ∙ q)) (λ a s o e _ further small p q.
    let t = tag_there r s o e in
    further (bytes_drop (size_of o) s small) p
    (sym (seek_next r n a s o e (λ h. none (drop o.place s) (bytes_drop o.place s small) t.0 t.1.0 (t.1.1 ∙ h))) ∙ q))

no_tag_followed : (r : Reading) (n : ℕ) → NoTag r n → (s : List ℕ) → Bytes s → (before path : List ℕ) (m : ℕ) (p : Span) (q : Found)
    → follow r s m p (before ++ (n ∷ path)) ≡ ok q → ⊥
unfolding follow
no_tag_followed r n none s small [] path m p q e =
    by_reply (seek r n p.at (part s p)) (λ u f. no_tag_sought r n none p.at (part s p) (bytes_take p.len (drop p.at s) (bytes_drop p.at s small)) u f) (λ k f.
    refused_not_ok _ q (rw f at e))
no_tag_followed r n none s small (t ∷ before) path m p q e =
    by_reply (seek r t p.at (part s p)) (λ u f.
    no_tag_followed r n none s small before path (m + 1) u q (rw f at e)) (λ k f.
    refused_not_ok _ q (rw f at e))

pub no_tag_found : (r : Reading) (n : ℕ) → NoTag r n → (s before path : List ℕ) → Bytes s → (p : Found)
    → lookup r s (before ++ (n ∷ path)) ≡ ok p → ⊥
no_tag_found r n none s before path small p e = no_tag_followed r n none s small before path 0 (whole_record s) p e

-- A number above three bytes is no tag.
pub above_three_bytes : (r : Reading) (n : ℕ) → 0xFFFFFF < n → NoTag r n
above_three_bytes r n h s small t e f =
    let low = by_tag r s (All (λ (t : Tag). t.number < 0x1000000)) (λ _. tt) (λ _. tt) (λ _ _. omega (arith, small 0))
    (λ _ _ _. omega (arith, small 0, small 1)) (λ _ _ _ _ _. omega (arith, small 0, small 1, small 2)) in
    omega (arith, all_is (λ (t : Tag). t.number < 0x1000000) (tag_of r s) t low (alone_read r s t e).1)

-- In the standard reading 0 is no tag: its only byte would be padding (rule 16.6).
pub zero_not_read : (s : List ℕ) (t : Tag) → tag_alone Standard s ≡ ok t → t.number ≡ 0 → ⊥
zero_not_read s t e f =
    let read = alone_read Standard s t e in
    let N : Tag → Type 0 = λ t. 1 ≤ t.number in
    let some = by_tag Standard s (All N) (λ _. tt) (λ _. tt)
    (λ h _. omega (arith, first_not_zero s h (sym (standard_padding s) ∙ read.0))) (λ g _ _. omega (arith, g)) (λ g _ _ _ _. omega (arith, g)) in
    omega (arith, all_is N (tag_of Standard s) t some read.1)

pub zero_no_tag : NoTag Standard 0
zero_no_tag s small = zero_not_read s
