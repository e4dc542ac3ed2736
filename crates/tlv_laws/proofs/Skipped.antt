-- A lookup does not see the values that it passes over, nor what stands after the part that it enters last, and finds
-- nothing there (rules 6.11 and 6.14).
use Prim.Native.Nat.{ℕ, ◌+◌, ◌≤◌, ◌<◌}
use mathlib.Core.Path.{◌≡◌, refl, sym, ap, ◌∙◌}
use mathlib.Core.Bool.{true, false, cond}
use mathlib.Core.List.{List, [], ◌∷◌, ◌++◌, append-nil}
use native.Mathlib.Nat.{add_assoc}
use native.Mathlib.Omega.{arith}
use lib.Dec.{eqb}
use lib.ListN.{length, get_or, take, drop, length-take, length-drop}
use lib.Seq.{get_or-take, get_or-drop, ext_get_or, length-take-le}
use borrow.Author.Tests.{lt-ltb, ne_eqb}
use Rattle.basis.specs.Reply.{ok, refused}
use Rattle.basis.proofs.Reply.{All, by_reply, all_is, all_cond, all_weaken, refused_not_ok, all_both}
use Rattle.basis.proofs.Truth.{on_cond}
use Rattle.tlv.specs.Padding.{padding}
use Rattle.tlv.specs.Object.{Item, Stop, next_of, size_of}
use Rattle.tlv.specs.Lookup.{Span, part, whole_record, seek, Found, Halt, found_by, span_of, follow, lookup}
use Rattle.tlv.specs.declared.Reading.{Reading}
use Rattle.tlv.proofs.Walk.{walk_refused, walk_met, by_objects, seek_refused, seek_is, Lies, FoundIn, seek_inside}
use Rattle.basis.specs.Every.{Every}
use Rattle.basis.proofs.Every.{every_append, every_weaken}
use Rattle.tlv_laws.specs.Skipped.{passed_of, passed_at, passed_from, passed, last_from, last_entered, end_of}
use Rattle.tlv_laws.specs.Skipped.{covers, covered_by, seen_to, seen}
use Rattle.tlv_laws.proofs.TruthValues.{by_test, same_cond}
use Rattle.tlv_laws.proofs.FrontOfBytes.{next_front}
use Rattle.tlv_laws.proofs.Padded.{walk_padded}
use Rattle.tlv_laws.proofs.AfterMatch.{follow_inside}
use Rattle.tlv_laws.proofs.Covered.{Before, covers_ahead, covers_after, uncovered, uncovered_append}
use Rattle.tlv_laws.proofs.Covered.{covered_left, covered_right, covered_before}

passed_no : (r : Reading) (t a : ℕ) (s : List ℕ) (k : Stop) → next_of r s ≡ refused k → passed_at r t a s ≡ []
unfolding passed_at passed_of
passed_no r t a s k e = rw (walk_refused r a s k e)

passed_is : (r : Reading) (t a : ℕ) (s : List ℕ) (o : Item) → next_of r s ≡ ok o
    → passed_at r t a s
    ≡ cond (eqb o.tag t) [] (record { at = a + o.at; len = o.len } ∷ passed_at r t (a + size_of o) (drop (size_of o) s))
unfolding passed_at passed_of
passed_is r t a s o e = rw (walk_met r a s o e)

-- padding in front passes over nothing
pub passed_padded : (r : Reading) (x : List ℕ) → padding r x ≡ length x → (t a : ℕ) (y : List ℕ)
    → passed_at r t a (x ++ y) ≡ passed_at r t (a + length x) y
unfolding passed_at
passed_padded r x only t a y = rw (walk_padded r x only a y)

-- the value of an object with another tag is passed over, and then what is passed over after it
pub passed_next : (r : Reading) (t a : ℕ) (s : List ℕ) (o : Item) → next_of r s ≡ ok o → (o.tag ≡ t → ⊥)
    → passed_at r t a s ≡ record { at = a + o.at; len = o.len } ∷ passed_at r t (a + (o.at + o.len)) (drop (o.at + o.len) s)
passed_next r t a s o e h = rw (passed_is r t a s o e, ne_eqb o.tag t h)

-- two lists with the same byte at each of the first k places
pub take_same : (k : ℕ) (s s' : List ℕ) → k ≤ length s → k ≤ length s' → ((i : ℕ) → i < k → get_or s i 0 ≡ get_or s' i 0)
    → take k s ≡ take k s'
take_same k s s' h g same =
    let n : length (take k s) ≡ k = length-take-le k s h in
    ext_get_or 0 (take k s) (take k s') (n ∙ sym (length-take-le k s' g)) (λ i l.
    let m : i < k = omega arith in
    get_or-take k s i 0 m ∙ same i m ∙ sym (get_or-take k s' i 0 m))

module _ (r : Reading) (t : ℕ) where
  -- at one level: what is passed over stands in the bytes searched, and before the value found
  passed_within : (a : ℕ) (s : List ℕ) → Every (Lies a (a + length s)) (passed_at r t a s)
  passed_within =
      by_objects r (λ a s. Every (Lies a (a + length s)) (passed_at r t a s)) (λ a s k e. rw (passed_no r t a s k e) tt)
      (λ a s o e w deeper.
      let L = Lies a (a + length s) in
      let k = size_of o in
      rw (passed_is r t a s o e) (on_cond (Every L) (eqb o.tag t) _ _ (λ _. tt) (λ _. (
        omega arith,
        every_weaken L (Lies (a + k) (a + k + length (drop k s))) (passed_at r t (a + k) (drop k s))
            (λ q l. omega (arith, length-drop k s)) deeper,
      ))))

  abbrev Ahead : ℕ → List ℕ → Span → Type 0
  Ahead a s p = (a ≤ p.at) × Every (Before p) (passed_at r t a s)

  passed_before : (a : ℕ) (s : List ℕ) → All (Ahead a s) (seek r t a s)
  passed_before =
      by_objects r (λ a s. All (Ahead a s) (seek r t a s)) (λ a s k e. rw (seek_refused r t a s k e) tt) (λ a s o e w deeper.
      let b = a + size_of o in
      let rest = drop (size_of o) s in
      rw (seek_is r t a s o e) (all_cond (Ahead a s) (eqb o.tag t) _ _
      (λ h. (omega arith, rw (passed_is r t a s o e, h) tt))
      (λ h. all_weaken (Ahead a s) (Ahead b rest) (seek r t b rest)
      (λ p f. (omega arith, rw (passed_is r t a s o e, h) (omega arith, f.1))) deeper)))

  level_before : (a : ℕ) (s : List ℕ) (p : Span) → seek r t a s ≡ ok p → Every (Before p) (passed_at r t a s)
  level_before a s p e = (all_is (Ahead a s) (seek r t a s) p (passed_before a s) e).1

  -- a place that this level looks at: outside of what is passed over, and before the value found
  abbrev Looked : ℕ → List ℕ → ℕ → Type 0
  Looked a s i = (covered_by (passed_at r t a s) i ≡ false) × All (λ p. i < p.at) (seek r t a s)

  -- it looks at bytes that are no object, at the tag and the length of an object, and further on after an object
  looked_no : (a : ℕ) (s : List ℕ) (k : Stop) (i : ℕ) → next_of r s ≡ refused k → Looked a s i
  unfolding covered_by
  looked_no a s k i e = rw (passed_no r t a s k e, seek_refused r t a s k e) (refl, tt)

  module _ (a : ℕ) (s : List ℕ) (o : Item) (i : ℕ) (e : next_of r s ≡ ok o) where
    looked_head : i < a + o.at → Looked a s i
    unfolding covered_by
    looked_head h =
        let b = a + size_of o in
        let d = drop (size_of o) s in
        let rest = passed_at r t b d in
        rw (passed_is r t a s o e, seek_is r t a s o e) (by_test (eqb o.tag t) (λ g. rw g (refl, h)) (λ g.
        rw (g, covers_ahead (record { at = a + o.at; len = o.len }) i h) (
          uncovered rest i (every_weaken (λ q. covers q i ≡ false) (Lies b (b + length d)) rest
              (λ q l. covers_ahead q i (omega arith)) (passed_within b d)),
          all_weaken (λ p. i < p.at) (Ahead b d) (seek r t b d) (λ p f. omega arith) (passed_before b d),
        )))

    looked_rest : eqb o.tag t ≡ false → a + size_of o ≤ i → Looked (a + size_of o) (drop (size_of o) s) i → Looked a s i
    unfolding covered_by
    looked_rest g h l =
        rw (passed_is r t a s o e, seek_is r t a s o e, g, covers_after (record { at = a + o.at; len = o.len }) i (omega arith)) l

  -- bytes that agree at every place that this level looks at
  abbrev Unseen : ℕ → List ℕ → Type 0
  Unseen a s =
      (s' : List ℕ) → length s' ≡ length s → ((i : ℕ) → i < length s → Looked a s (a + i) → get_or s' i 0 ≡ get_or s i 0)
      → seek r t a s' ≡ seek r t a s

  seek_unseen : (a : ℕ) (s : List ℕ) → Unseen a s
  seek_unseen =
      by_objects r Unseen
      (λ a s k e s' long same. ap (seek r t a) (ext_get_or 0 s' s long (λ i h. same i (omega arith) (looked_no a s k (a + i) e))))
      (λ a s o e w deeper s' long same.
      let k = size_of o in
      let head : take o.at s' ≡ take o.at s = take_same o.at s' s (omega arith) (omega arith) (λ i h.
      same i (omega arith) (looked_head a s o (a + i) e (omega arith))) in
      rw (seek_is r t a s' o (next_front r s s' o e head (omega arith)), seek_is r t a s o e)
      (same_cond (eqb o.tag t) _ _ _ _ (λ _. refl) (λ g.
      deeper (drop k s') (simp length-drop (omega arith)) (λ i h l.
      let below : k + i < length s = omega (arith, length-drop k s) in
      get_or-drop k s' i 0 ∙ same (k + i) below (looked_rest a s o (a + (k + i)) e g (omega arith) (rw add_assoc at l))
      ∙ sym (get_or-drop k s i 0)))))

-- along a path: an empty path passes over nothing. If the first tag is refused, the values of its level are passed
-- over. If it is found, these and then those that the rest of the path passes over in the value found
pub passed_nothing : (r : Reading) (s : List ℕ) (p : Span) → passed_from r s p [] ≡ []
unfolding passed_from
passed_nothing r s p = refl

pub passed_found : (r : Reading) (s : List ℕ) (p : Span) (t : ℕ) (path : List ℕ) (q : Span) → seek r t p.at (part s p) ≡ ok q
    → passed_from r s p (t ∷ path) ≡ passed_at r t p.at (part s p) ++ passed_from r s q path
unfolding passed_from
passed_found r s p t path q e = rw e

pub passed_refused : (r : Reading) (s : List ℕ) (p : Span) (t : ℕ) (path : List ℕ) (e : Stop) → seek r t p.at (part s p) ≡ refused e
    → passed_from r s p (t ∷ path) ≡ passed_at r t p.at (part s p)
unfolding passed_from
passed_refused r s p t path k e = rw (e, append-nil)

-- what is passed over does not stand before the part in which the path starts
passed_from_lem : (r : Reading) (s : List ℕ) (p : Span) (path : List ℕ) → Every (λ q. p.at ≤ q.at) (passed_from r s p path)
passed_from_lem r s p [] = rw (passed_nothing r s p) tt
passed_from_lem r s p (t ∷ path) =
    let b = part s p in
    let F : Span → Type 0 = λ q. p.at ≤ q.at in
    let here = passed_at r t p.at b in
    let level : Every F here = every_weaken F (Lies p.at (p.at + length b)) here (λ q l. l.0) (passed_within r t p.at b) in
    by_reply (seek r t p.at b) (λ m e.
    let l = seek_inside r b t p.at m e in
    let deeper = passed_from r s m path in
    rw (passed_found r s p t path m e) (every_append F here deeper level
    (every_weaken F (λ q. m.at ≤ q.at) deeper (λ q h. omega arith) (passed_from_lem r s m path))))
    (λ k e. rw (passed_refused r s p t path k e) level)

-- it stands before the value found
follow_outside : (r : Reading) (s : List ℕ) (n : ℕ) (p : Span) (path : List ℕ)
    → All (λ q. Every (Before (span_of q)) (passed_from r s p path)) (follow r s n p path)
unfolding follow
follow_outside r s n p [] = rw (passed_nothing r s p) tt
follow_outside r s n p (t ∷ path) =
    let b = part s p in
    let x = seek r t p.at b in
    by_reply x (λ m e.
    let deeper = passed_from r s m path in
    let here = passed_at r t p.at b in
    let y = follow r s (n + 1) m path in
    let L = FoundIn m.at (m.at + m.len) in
    let D : Found → Type 0 = λ q. Every (Before (span_of q)) deeper in
    rw (e, passed_found r s p t path m e) (all_weaken (λ q. Every (Before (span_of q)) (here ++ deeper)) (λ q. L q × D q) y (λ q h.
    every_append (Before (span_of q)) here deeper
    (every_weaken (Before (span_of q)) (Before m) here (λ z f. omega arith) (level_before r t p.at b m e)) h.1)
    (all_both L D y (follow_inside r s (n + 1) m path) (follow_outside r s (n + 1) m path))))
    (λ k e. rw e tt)

pub lookup_outside : (r : Reading) (s path : List ℕ) (p : Found) → lookup r s path ≡ ok p → Every (Before (span_of p)) (passed r s path)
lookup_outside r s path p e =
    all_is (λ p. Every (Before (span_of p)) (passed r s path)) (lookup r s path) p (follow_outside r s 0 (whole_record s) path) e

-- the value found does not lie in a value passed over: every place of those stands before it
pub found_outside : (r : Reading) (s path : List ℕ) (p : Found) → lookup r s path ≡ ok p → (i : ℕ)
    → covered_by (passed r s path) i ≡ true → i < p.at
found_outside r s path p e i = covered_before (span_of p) (passed r s path) i (lookup_outside r s path p e)

-- the places that a path passes over: those of its first level, and those of its rest in the value found there
module _ (r : Reading) (s : List ℕ) (i : ℕ) where
  pub passed_level : (p : Span) (t : ℕ) (path : List ℕ) → covered_by (passed_at r t p.at (part s p)) i ≡ true
      → covered_by (passed_from r s p (t ∷ path)) i ≡ true
  passed_level p t path h =
      let here = passed_at r t p.at (part s p) in
      by_reply (seek r t p.at (part s p))
      (λ q e. rw (passed_found r s p t path q e) (covered_left here (passed_from r s q path) i h))
      (λ k e. rw (passed_refused r s p t path k e) h)

  pub passed_deeper : (p : Span) (t : ℕ) (path : List ℕ) (q : Span) → seek r t p.at (part s p) ≡ ok q
      → covered_by (passed_from r s q path) i ≡ true → covered_by (passed_from r s p (t ∷ path)) i ≡ true
  passed_deeper p t path q e h =
      rw (passed_found r s p t path q e) (covered_right (passed_at r t p.at (part s p)) (passed_from r s q path) i h)

  -- the same for the value that the first tags of a path lead to
  pub passed_entered : (front rest : List ℕ) (n : ℕ) (p : Span) (q : Found) → follow r s n p front ≡ ok q
      → covered_by (passed_from r s (span_of q) rest) i ≡ true → covered_by (passed_from r s p (front ++ rest)) i ≡ true
  unfolding follow
  passed_entered [] rest n p q e h = let same : found_by n p ≡ q = cc in rw (ap span_of same) h
  passed_entered (t ∷ front) rest n p q e h =
      by_reply (seek r t p.at (part s p))
      (λ m g. passed_deeper p t (front ++ rest) m g (passed_entered front rest (n + 1) m q (rw g at e) h))
      (λ k g. absurd (refused_not_ok _ q (rw g at e)))

-- the part entered last: the value found, or the part in which a tag of the path is refused
last_append : (r : Reading) (s : List ℕ) (n : ℕ) (p : Span) (path rest : List ℕ)
    → All (λ q. last_from r s p (path ++ rest) ≡ last_from r s (span_of q) rest) (follow r s n p path)
unfolding last_from follow
last_append r s n p [] rest = refl
last_append r s n p (t ∷ path) rest =
    by_reply (seek r t p.at (part s p)) (λ m e. rw e (last_append r s (n + 1) m path rest)) (λ k e. rw e tt)

module _ (r : Reading) (s path : List ℕ) (p : Found) (e : lookup r s path ≡ ok p) where
  last_rest : (rest : List ℕ) → last_entered r s (path ++ rest) ≡ last_from r s (span_of p) rest
  last_rest rest =
      all_is (λ q. last_entered r s (path ++ rest) ≡ last_from r s (span_of q) rest) (lookup r s path) p
      (last_append r s 0 (whole_record s) path rest) e

  pub last_found : last_entered r s path ≡ span_of p
  unfolding last_from
  last_found = rw append-nil at (last_rest [])

  pub last_refused : (t : ℕ) (z : Stop) (rest : List ℕ) → seek r t p.at (part s (span_of p)) ≡ refused z
      → last_entered r s (path ++ (t ∷ rest)) ≡ span_of p
  unfolding last_from
  last_refused t z rest h = last_rest (t ∷ rest) ∙ rw h

-- it does not start before the part in which the path starts
last_from_lem : (r : Reading) (s : List ℕ) (p : Span) (path : List ℕ) → p.at ≤ (last_from r s p path).at
unfolding last_from
last_from_lem r s p [] = omega arith
last_from_lem r s p (t ∷ path) =
    let b = part s p in
    let x = seek r t p.at b in
    by_reply x (λ m e.
    let l = seek_inside r b t p.at m e in
    rw e (omega (arith, last_from_lem r s m path)))
    (λ k e. rw e (omega arith))

module _ (r : Reading) (s : List ℕ) where
  -- a place that the path from p on looks at: its first level looks at it, or a deeper level
  abbrev LookedFrom : ℕ → Span → List ℕ → ℕ → Type 0
  LookedFrom n p path i =
      (covered_by (passed_from r s p path) i ≡ false) × (i < end_of (last_from r s p path)) × All (λ q. i < q.at) (follow r s n p path)

  module _ (n : ℕ) (p : Span) (t : ℕ) (path : List ℕ) (i : ℕ) where
    looked_level : i < end_of p → Looked r t p.at (part s p) i → LookedFrom n p (t ∷ path) i
    unfolding follow covered_by last_from
    looked_level h l =
        let x = seek r t p.at (part s p) in
        let here = passed_at r t p.at (part s p) in
        by_reply x (λ m e.
        let f : i < m.at = all_is (λ m. i < m.at) x m l.1 e in
        let deeper = passed_from r s m path in
        rw (passed_found r s p t path m e, e) (
          uncovered_append here deeper i l.0 (uncovered deeper i
              (every_weaken (λ q. covers q i ≡ false) (λ q. m.at ≤ q.at) deeper
              (λ q g. covers_ahead q i (omega arith)) (passed_from_lem r s m path))),
          omega (arith, last_from_lem r s m path),
          all_weaken (λ q. i < q.at) (FoundIn m.at (m.at + m.len)) (follow r s (n + 1) m path) (λ q g. omega arith)
              (follow_inside r s (n + 1) m path),
        ))
        (λ k e. rw (passed_refused r s p t path k e, e) (l.0, h, tt))

    looked_deeper : (m : Span) → seek r t p.at (part s p) ≡ ok m → m.at ≤ i → LookedFrom (n + 1) m path i
        → LookedFrom n p (t ∷ path) i
    unfolding follow last_from
    looked_deeper m e h l =
        let here = passed_at r t p.at (part s p) in
        rw (passed_found r s p t path m e, e) (
          uncovered_append here (passed_from r s m path) i (uncovered here i (every_weaken (λ q. covers q i ≡ false) (Before m) here
              (λ q g. covers_after q i (omega arith)) (level_before r t p.at (part s p) m e))) l.0,
          l.1,
          l.2,
        )

  -- a record of the same length that agrees at every place that the path looks at
  module _ (s' : List ℕ) (long : length s' ≡ length s) where
    follow_unseen : (path : List ℕ) (n : ℕ) (p : Span) → p.at + p.len ≤ length s
        → ((i : ℕ) → p.at ≤ i → i < p.at + p.len → LookedFrom n p path i → get_or s' i 0 ≡ get_or s i 0)
        → follow r s' n p path ≡ follow r s n p path
    unfolding follow
    follow_unseen [] n p h same = refl
    follow_unseen (t ∷ path) n p h same =
        let b = part s p in
        let b' = part s' p in
        let x = seek r t p.at b in
        let size : length b ≡ p.len = simp (length-take, length-drop) (omega arith) in
        let size' : length b' ≡ length b = simp (length-take, length-drop) (omega arith) in
        let byte : (l : List ℕ) (i : ℕ) → i < p.len → get_or (part l p) i 0 ≡ get_or l (p.at + i) 0 = λ l i g.
        get_or-take p.len (drop p.at l) i 0 g ∙ get_or-drop p.at l i 0 in
        let level : seek r t p.at b' ≡ x = seek_unseen r t p.at b b' size' (λ i g l.
        byte s' i (omega arith) ∙ same (p.at + i) (omega arith) (omega arith) (looked_level n p t path (p.at + i) (omega arith) l)
        ∙ sym (byte s i (omega arith))) in
        rw level (by_reply x (λ m e.
        let w = seek_inside r b t p.at m e in
        rw e (follow_unseen path (n + 1) m (omega arith) (λ i g f l.
        same i (omega arith) (omega arith) (looked_deeper n p t path i m e g l))))
        (λ k e. rw e))

-- the place up to which a lookup looks
pub seen_to_found : (r : Reading) (s path : List ℕ) (p : Found) → lookup r s path ≡ ok p → seen_to r s path ≡ p.at
seen_to_found r s path p e = rw e (omega arith)

pub seen_to_refused : (r : Reading) (s path : List ℕ) (k : Halt) → lookup r s path ≡ refused k
    → seen_to r s path ≡ (last_entered r s path).at + (last_entered r s path).len
seen_to_refused r s path k e = rw e (omega arith)

-- the whole reply of a lookup depends only on the bytes that it looks at: those outside of the values passed over, and
-- before the value found or, if it is refused, before the end of the part entered last
pub unseen : (r : Reading) (s s' path : List ℕ) → length s' ≡ length s
    → ((i : ℕ) → i < length s → seen r s path i ≡ true → get_or s' i 0 ≡ get_or s i 0) → lookup r s' path ≡ lookup r s path
unseen r s s' path long same =
    rw long (follow_unseen r s s' long path 0 (whole_record s) (omega arith) (λ i _ h l.
    let before : i < seen_to r s path = by_reply (lookup r s path)
    (λ p e. omega (arith, seen_to_found r s path p e, all_is (λ q. i < q.at) (lookup r s path) p l.2 e))
    (λ k e. omega (arith, seen_to_refused r s path k e)) in
    same i (omega arith) (rw l.0 (lt-ltb i (seen_to r s path) before))))
