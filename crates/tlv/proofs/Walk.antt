-- The walk of a record, one object at a time and without a bound; then the search for a tag, and a path. What is found
-- lies in the bytes that were searched.
use Prim.Native.Nat.{ℕ, zero, suc, ◌+◌, ◌-◌, ◌≤◌, ◌<◌}
use mathlib.Core.Path.{◌≡◌, refl, sym, ap, ◌∙◌}
use mathlib.Core.Bool.{cond}
use mathlib.Core.List.{List, [], ◌∷◌}
use native.Mathlib.Nat.{add_assoc, add-zero}
use native.Mathlib.Numerals.{add-one}
use native.Mathlib.Omega.{arith}
use lib.Dec.{eqb}
use lib.ListN.{length, get_or, drop, length-drop, length-take, drop_of_length-le}
use lib.Seq.{drop-cons}
use borrow.Author.Tests.{eq-eqb, ne_eqb}
use Rattle.basis.specs.Reply.{Told, ok, refused}
use Rattle.basis.proofs.Reply.{All, by_reply, all_is, all_cond, all_weaken, refused_not_ok}
use Rattle.tlv.specs.Tag.{tag_of}
use Rattle.tlv.specs.Object.{object_of, Item, Stop, next_of, size_of, moved_item, moved_stop, moved}
use Rattle.tlv.specs.Walk.{Walk, with_item, walk_on, walk_in, walk}
use Rattle.tlv.specs.Lookup.{Span, part, whole_record, first_value, seek, Found, span_of, follow, lookup}
use Rattle.tlv.specs.declared.Reading.{Reading}
use Rattle.tlv.proofs.Zeros.{padding_nothing}
use Rattle.tlv.proofs.Within.{Ends, next_within, next_inside}

-- two ways to go on that agree after every object within the bytes give the same walk
onward_same : (a m : ℕ) (f g : Item → Walk) (x : Told Stop Item) → All (Ends m) x → ((i : Item) → Ends m i → f i ≡ g i)
    → walk_on a f x ≡ walk_on a g x
onward_same a m f g (ok i) h e = ap (with_item (moved_item a i)) (e i h)
onward_same a m f g (refused k) h e = refl

-- from no bytes: 11, at their end (rule 1.11)
pub next_nothing : (r : Reading) → next_of r [] ≡ refused (record { number = 11; place = 0 })
unfolding next_of object_of tag_of
next_nothing r = rw (padding_nothing r)

module _ (r : Reading) where
  -- any two bounds that are not below the number of bytes give the same walk
  any_bound : (n m a : ℕ) (s : List ℕ) → length s ≤ n → length s ≤ m → walk_in n r a s ≡ walk_in m r a s
  unfolding walk_in
  any_bound zero zero a s h g = refl
  any_bound zero (suc m) a [] h g = rw (next_nothing r, add-zero)
  any_bound zero (suc m) a (x ∷ s) h g = absurd (omega arith)
  any_bound (suc n) zero a [] h g = rw (next_nothing r, add-zero)
  any_bound (suc n) zero a (x ∷ s) h g = absurd (omega arith)
  any_bound (suc n) (suc m) a s h g =
      onward_same a (length s) _ _ (next_of r s) (next_within r s) (λ i w.
      any_bound n m (a + size_of i) (drop (size_of i) s) (simp length-drop (omega arith)) (simp length-drop (omega arith)))

  -- the walk is an object and the walk after it, or the stop
  pub walk_is : (a : ℕ) (s : List ℕ) → walk r a s ≡ walk_on a (λ i. walk r (a + size_of i) (drop (size_of i) s)) (next_of r s)
  unfolding walk walk_in
  walk_is a s =
      any_bound (length s) (suc (length s)) a s (omega arith) (omega arith)
      ∙ onward_same a (length s) _ _ (next_of r s) (next_within r s) (λ i w.
      any_bound (length s) (length (drop (size_of i) s)) (a + size_of i) (drop (size_of i) s) (simp length-drop (omega arith)) (omega arith))

  pub walk_refused : (a : ℕ) (s : List ℕ) (e : Stop) → next_of r s ≡ refused e
      → walk r a s ≡ record { items = []; stop = record { number = e.number; place = a + e.place } }
  walk_refused a s e h = rw (walk_is a s, h)

  pub walk_met : (a : ℕ) (s : List ℕ) (i : Item) → next_of r s ≡ ok i → let w = walk r (a + size_of i) (drop (size_of i) s) in
      walk r a s
      ≡ record { items = record { place = a + i.place; tag = i.tag; at = a + i.at; len = i.len } ∷ w.items; stop = w.stop }
  walk_met a s i h = rw (walk_is a s, h)

  -- the same by what is read at place a
  pub walk_stopped : (a : ℕ) (s : List ℕ) (e : Stop) → moved a (next_of r s) ≡ refused e → walk r a s ≡ record { items = []; stop = e }
  walk_stopped a s e h =
      by_reply (next_of r s) (λ i f. absurd (refused_not_ok e _ (sym (rw f at h)))) (λ k f.
      let same : moved_stop a k ≡ e = cc (rw f at h) in
      walk_refused a s k f ∙ ap (λ (x : Stop). record { items = []; stop = x }) same)

  pub walk_item : (a : ℕ) (s : List ℕ) (i : Item) → moved a (next_of r s) ≡ ok i
      → let w = walk r (i.at + i.len) (drop (i.at + i.len - a) s) in walk r a s ≡ record { items = i ∷ w.items; stop = w.stop }
  walk_item a s i h =
      by_reply (next_of r s) (λ o f.
      let same : moved_item a o ≡ i = cc (rw f at h) in
      let size : a + o.at + o.len - a ≡ size_of o = omega arith in
      let goes_on : Item → Walk = λ i. with_item i (walk r (i.at + i.len) (drop (i.at + i.len - a) s)) in
      let here : walk r a s ≡ goes_on (moved_item a o) = rw (walk_met a s o f, size, add_assoc) in
      here ∙ ap goes_on same)
      (λ k f. absurd (refused_not_ok _ i (rw f at h)))

  -- induction: what holds of bytes where no object is read, and of bytes with an object in front if it holds of the
  -- bytes after it, holds of all bytes
  module _ (P : ℕ → List ℕ → Type 0) (none : (a : ℕ) (s : List ℕ) (e : Stop) → next_of r s ≡ refused e → P a s)
      (some : (a : ℕ) (s : List ℕ) (i : Item) → next_of r s ≡ ok i → Ends (length s) i
      → P (a + size_of i) (drop (size_of i) s) → P a s) where
    within_bound : (n a : ℕ) (s : List ℕ) → length s ≤ n → P a s
    within_bound zero a [] h = none a [] _ (next_nothing r)
    within_bound zero a (x ∷ s) h = absurd (omega arith)
    within_bound (suc n) a s h =
        by_reply (next_of r s) (λ i e.
        let w = all_is (Ends (length s)) (next_of r s) i (next_within r s) e in
        some a s i e w (within_bound n (a + size_of i) (drop (size_of i) s) (simp length-drop (omega arith)))) (none a s)

    pub by_objects : (a : ℕ) (s : List ℕ) → P a s
    by_objects a s = within_bound (length s) a s (omega arith)

module _ (r : Reading) (t : ℕ) where
  -- a search: no object is read; an object with the tag; another object, which is passed over whole (rule 6.11)
  pub seek_refused : (a : ℕ) (s : List ℕ) (e : Stop) → next_of r s ≡ refused e
      → seek r t a s ≡ refused (record { number = e.number; place = a + e.place })
  unfolding seek first_value
  seek_refused a s e h = rw (walk_refused r a s e h)

  module _ (a : ℕ) (s : List ℕ) (o : Item) (e : next_of r s ≡ ok o) where
    pub seek_is : seek r t a s
        ≡ cond (eqb o.tag t) (ok (record { at = a + o.at; len = o.len })) (seek r t (a + size_of o) (drop (size_of o) s))
    unfolding seek first_value
    seek_is = rw (walk_met r a s o e)

    pub seek_here : o.tag ≡ t → seek r t a s ≡ ok (record { at = a + o.at; len = o.len })
    seek_here h = rw (seek_is, eq-eqb o.tag t h)

    pub seek_next : (o.tag ≡ t → ⊥) → seek r t a s ≡ seek r t (a + size_of o) (drop (size_of o) s)
    seek_next h = rw (seek_is, ne_eqb o.tag t h)

-- an object that is read from place a on has a byte there, and its value ends within the bytes
pub item_inside : (r : Reading) (a : ℕ) (s : List ℕ) (i : Item) → moved a (next_of r s) ≡ ok i
    → (a ≤ i.place) × (i.place < i.at) × (i.at + i.len ≤ a + length s)
item_inside r a s i h =
    by_reply (next_of r s) (λ o e.
    let w = next_inside r s o e in
    let same : moved_item a o ≡ i = cc (rw e at h) in
    omega (arith, w, ap (λ (j : Item). j.place) same, ap (λ (j : Item). j.at) same, ap (λ (j : Item). j.len) same))
    (λ k e. absurd (refused_not_ok _ i (rw e at h)))

-- a path from its tag number i on, in a part p of the record: the tag is refused; it is found, and its value is
-- entered; no tag is left (rules 6.10 and 6.13)
module _ (r : Reading) (s : List ℕ) (m : ℕ) (p : Span) (path : List ℕ) (i : ℕ) where
  pub follow_refused : (e : Stop) → i < length path → seek r (get_or path i 0) p.at (part s p) ≡ refused e
      → follow r s m p (drop i path) ≡ refused (record { number = e.number; place = e.place; matched = m })
  unfolding follow
  follow_refused e h g = rw (drop-cons path i 0 h, g)

  pub follow_next : (q : Span) → i < length path → seek r (get_or path i 0) p.at (part s p) ≡ ok q
      → follow r s m p (drop i path) ≡ follow r s (m + 1) q (drop (i + 1) path)
  unfolding follow
  follow_next q h e = rw (drop-cons path i 0 h, e, add-one i)

  pub follow_end : length path ≤ i → follow r s m p (drop i path) ≡ ok (record { at = p.at; len = p.len; matched = m })
  unfolding follow
  follow_end h = rw (drop_of_length-le path h)

-- a part that starts at place a or after it, and ends at place m or before it; the same of a part that a path leads to
abbrev pub Lies : ℕ → ℕ → Span → Type 0
Lies a m p = (a ≤ p.at) × (p.at + p.len ≤ m)

abbrev pub FoundIn : ℕ → ℕ → Found → Type 0
FoundIn a m p = Lies a m (span_of p)

-- a value found lies in the bytes that were searched
pub seek_within : (r : Reading) (t a : ℕ) (s : List ℕ) → All (Lies a (a + length s)) (seek r t a s)
seek_within r t =
    by_objects r (λ a s. All (Lies a (a + length s)) (seek r t a s)) (λ a s k e. rw (seek_refused r t a s k e) tt) (λ a s o e w deeper.
    let L = Lies a (a + length s) in
    let rest = drop (size_of o) s in
    let b = a + size_of o in
    rw (seek_is r t a s o e) (all_cond L (eqb o.tag t) _ _ (λ _. omega arith)
    (λ _. all_weaken L (Lies b (b + length rest)) (seek r t b rest) (λ p l. omega (arith, length-drop (size_of o) s)) deeper)))

-- the same in places
pub seek_inside : (r : Reading) (s : List ℕ) (t a : ℕ) (p : Span) → seek r t a s ≡ ok p → (a ≤ p.at) × (p.at + p.len ≤ a + length s)
seek_inside r s t a p e = omega (arith, all_is (Lies a (a + length s)) (seek r t a s) p (seek_within r t a s) e)

-- the value at the end of a path lies in the record (rule 6.15)
pub follow_within : (r : Reading) (s : List ℕ) (m : ℕ) (p : Span) (path : List ℕ) → Lies 0 (length s) p
    → All (FoundIn 0 (length s)) (follow r s m p path)
unfolding follow
follow_within r s m p [] h = h
follow_within r s m p (t ∷ path) h =
    by_reply (seek r t p.at (part s p)) (λ q e.
    let l = seek_inside r (part s p) t p.at q e in
    rw e (follow_within r s (m + 1) q path (omega (arith, l, length-take p.len (drop p.at s), length-drop p.at s))))
    (λ k e. rw e tt)

pub lookup_within : (r : Reading) (s path : List ℕ) → All (FoundIn 0 (length s)) (lookup r s path)
lookup_within r s path = follow_within r s 0 (whole_record s) path (omega arith)

pub lookup_inside : (r : Reading) (s path : List ℕ) (p : Found) → lookup r s path ≡ ok p → p.at + p.len ≤ length s
lookup_inside r s path p e = omega (arith, all_is (FoundIn 0 (length s)) (lookup r s path) p (lookup_within r s path) e)
