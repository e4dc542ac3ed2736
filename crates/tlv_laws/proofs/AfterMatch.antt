-- What stands after a match is not seen (rule 6.14).
use Prim.Native.Nat.{ℕ, ◌+◌, ◌-◌, ◌≤◌}
use mathlib.Core.Path.{◌≡◌, refl, sym, ap, ◌∙◌}
use mathlib.Core.List.{List, [], ◌∷◌, ◌++◌}
use native.Mathlib.Nat.{zero-add, add-sub_cancel_left}
use native.Mathlib.Omega.{arith}
use lib.Dec.{eqb}
use lib.ListN.{length, take, drop, length-take, length-drop, length-append}
use lib.Seq.{take-take, take-length, take-append-le}
use borrow.Author.Tests.{eqb-true, eqb-false}
use Rattle.basis.specs.Reply.{Told, ok, then}
use Rattle.basis.proofs.Reply.{All, by_reply, all_is, all_cond, all_weaken, all_both}
use Rattle.tlv.specs.Object.{size_of}
use Rattle.tlv.specs.Lookup.{Span, part, whole_record, seek, Found, Halt, span_of, searched, follow, lookup}
use Rattle.tlv.specs.declared.Reading.{Reading}
use Rattle.tlv.proofs.Walk.{by_objects, seek_refused, seek_is, seek_here, seek_next, FoundIn, seek_inside, lookup_inside}
use Rattle.tlv_laws.proofs.FrontOfBytes.{front_less, front_rest, next_front}

-- a list s' has the bytes of s up to the value found at one level, and room for that value: it is found there too
module _ (r : Reading) (t : ℕ) where
  abbrev Kept : ℕ → List ℕ → Span → Type 0
  Kept a s p =
      (a ≤ p.at)
      × ((s' : List ℕ) → take (p.at - a) s' ≡ take (p.at - a) s → p.at + p.len ≤ a + length s' → seek r t a s' ≡ ok p)

  level_front : (a : ℕ) (s : List ℕ) → All (Kept a s) (seek r t a s)
  level_front =
      by_objects r (λ a s. All (Kept a s) (seek r t a s)) (λ a s k e. rw (seek_refused r t a s k e) tt) (λ a s o e w deeper.
      let k = size_of o in
      rw (seek_is r t a s o e) (all_cond (Kept a s) (eqb o.tag t) _ _
      (λ h. (
        omega arith,
        λ s' f g.
            seek_here r t a s' o (next_front r s s' o e (rw add-sub_cancel_left at f) (omega arith)) (eqb-true o.tag t h),
      ))
      (λ h. all_weaken (Kept a s) (Kept (a + k) (drop k s)) (seek r t (a + k) (drop k s)) (λ p z. (
        omega arith,
        λ s' f g.
            let firstValue = front_less s s' (p.at - a) f o.at (omega arith) in
            let rest = front_rest s s' (p.at - a) f k (p.at - (a + k)) (omega arith) in
            seek_next r t a s' o (next_front r s s' o e firstValue (omega arith)) (eqb-false o.tag t h)
            ∙ z.1 (drop k s') rest (simp length-drop (omega arith)),
      ))
      deeper)))

  pub seek_front : (a : ℕ) (s s' : List ℕ) (p : Span) → seek r t a s ≡ ok p → take (p.at - a) s' ≡ take (p.at - a) s
      → p.at + p.len ≤ a + length s' → seek r t a s' ≡ ok p
  seek_front a s s' p e = (all_is (Kept a s) (seek r t a s) p (level_front a s) e).1 s'

-- a value at the end of a path lies in the part in which the path starts
pub follow_inside : (r : Reading) (s : List ℕ) (m : ℕ) (p : Span) (path : List ℕ)
    → All (FoundIn p.at (p.at + p.len)) (follow r s m p path)
unfolding follow
follow_inside r s m p [] = omega arith
follow_inside r s m p (t ∷ path) =
    let b = part s p in
    by_reply (seek r t p.at b) (λ q e.
    let l = seek_inside r b t p.at q e in
    rw e (all_weaken (FoundIn p.at (p.at + p.len)) (FoundIn q.at (q.at + q.len)) (follow r s (m + 1) q path)
    (λ n h. omega (arith, length-take p.len (drop p.at s))) (follow_inside r s (m + 1) q path)))
    (λ k e. rw e tt)

-- a record s' is not shorter than s, and has the bytes of s in front, up to the value found
module _ (r : Reading) (s s' : List ℕ) (long : length s ≤ length s') where
  abbrev Stays : (List ℕ → Told Halt Found) → Type 0
  Stays look = All (λ q. take q.at s' ≡ take q.at s → look s' ≡ ok q) (look s)

  -- one more level, in bytes b and b' that start at place a and agree as far as s and s' do
  enter : (t : ℕ) (path : List ℕ) (m a : ℕ) (b : List ℕ → List ℕ) → ((p : Span) → Stays (λ l. follow r l (m + 1) p path))
      → ((k : ℕ) → k ≤ length (b s) → take (a + k) s' ≡ take (a + k) s → take k (b s') ≡ take k (b s))
      → length (b s) ≤ length (b s')
      → Stays (λ l. then (searched m (seek r t a (b l))) (λ p. follow r l (m + 1) p path))
  enter t path m a b deeper same more =
      by_reply (seek r t a (b s)) (λ p e.
      let l = seek_inside r (b s) t a p e in
      let L = FoundIn p.at (p.at + p.len) in
      let N : Found → Type 0 = λ q. take q.at s' ≡ take q.at s → follow r s' (m + 1) p path ≡ ok q in
      rw e (all_weaken _ (λ q. L q × N q) (follow r s (m + 1) p path) (λ q w f.
      let front = same (p.at - a) (omega arith) (front_less s s' q.at f (a + (p.at - a)) (omega (arith, w.0))) in
      rw (seek_front r t a (b s) (b s') p e front (omega arith)) (w.1 f))
      (all_both L N (follow r s (m + 1) p path) (follow_inside r s (m + 1) p path) (deeper p))))
      (λ k e. rw e tt)

  follow_front : (path : List ℕ) (m : ℕ) (p : Span) → Stays (λ l. follow r l m p path)
  unfolding follow
  follow_front [] m p = λ _. refl
  follow_front (t ∷ path) m p =
      enter t path m p.at (λ l. part l p) (follow_front path (m + 1))
      (λ k h e.
      let short : k ≤ p.len = omega (arith, length-take p.len (drop p.at s)) in
      take-take k p.len (drop p.at s') short ∙ front_rest s s' (p.at + k) e p.at k refl
      ∙ sym (take-take k p.len (drop p.at s) short))
      (simp (length-take, length-drop) (omega arith))

  pub lookup_front : (t : ℕ) (path : List ℕ) (p : Found) → lookup r s (t ∷ path) ≡ ok p → take p.at s' ≡ take p.at s
      → lookup r s' (t ∷ path) ≡ ok p
  unfolding follow
  lookup_front t path p e =
      all_is (λ q. take q.at s' ≡ take q.at s → lookup r s' (t ∷ path) ≡ ok q) (lookup r s (t ∷ path)) p
      (rw (take-length s, take-length s') (enter t path 0 0 (λ l. l) (follow_front path 1) (λ k _ h. rw zero-add at h) long)) e

-- bytes u after the bytes searched change nothing if there is a match: at one level, and along a path (rule 6.14)
pub after_unseen : (r : Reading) (t a : ℕ) (s u : List ℕ) (p : Span) → seek r t a s ≡ ok p → seek r t a (s ++ u) ≡ ok p
after_unseen r t a s u p e =
    let l = seek_inside r s t a p e in
    seek_front r t a s (s ++ u) p e (take-append-le (p.at - a) s u (omega arith)) (simp length-append (omega arith))

pub path_after_unseen : (r : Reading) (s u : List ℕ) (t : ℕ) (path : List ℕ) (p : Found) → lookup r s (t ∷ path) ≡ ok p
    → lookup r (s ++ u) (t ∷ path) ≡ ok p
path_after_unseen r s u t path p e =
    let l = lookup_inside r s (t ∷ path) p e in
    lookup_front r s (s ++ u) (simp length-append (omega arith)) t path p e (take-append-le p.at s u (omega arith))

-- in a part that has the same bytes a path leads to the same value or refusal
follow_entered : (r : Reading) (s s' : List ℕ) (path : List ℕ) (m : ℕ) (q : Span)
    → take (q.at + q.len) s' ≡ take (q.at + q.len) s → follow r s' m q path ≡ follow r s m q path
unfolding follow
follow_entered r s s' [] m q e = refl
follow_entered r s s' (t ∷ path) m q e =
    let b = part s q in
    rw (front_rest s s' (q.at + q.len) e q.at q.len refl)
    (by_reply (seek r t q.at b) (λ p f.
    let l = seek_inside r b t q.at p f in
    rw f (follow_entered r s s' path (m + 1) p (front_less s s' (q.at + q.len) e (p.at + p.len)
    (omega (arith, length-take q.len (drop q.at s))))))
    (λ k f. rw f))

-- after the first tag is found, bytes after its value may be missing, changed or added: the rest of the path is found
-- or refused as before (rule 6.14)
pub entered_after_unseen : (r : Reading) (s s' : List ℕ) (t : ℕ) (path : List ℕ) (q : Span) → seek r t 0 s ≡ ok q
    → take (q.at + q.len) s' ≡ take (q.at + q.len) s → lookup r s' (t ∷ path) ≡ lookup r s (t ∷ path)
unfolding follow
entered_after_unseen r s s' t path q e same =
    let l = seek_inside r s t 0 q e in
    let n = q.at + q.len in
    let room : n ≤ length s' = omega (arith, ap length same, length-take n s, length-take n s') in
    rw (
      take-length s,
      take-length s',
      e,
      seek_front r t 0 s s' q e (front_less s s' n same (q.at - 0) (omega arith)) (omega arith),
    ) (follow_entered r s s' path 1 q same)

-- a path made of two paths: the second is followed from the value that the first leads to
pub follow_append : (r : Reading) (s : List ℕ) (m : ℕ) (p : Span) (path rest : List ℕ)
    → follow r s m p (path ++ rest) ≡ then (follow r s m p path) (λ q. follow r s q.matched (span_of q) rest)
unfolding follow
follow_append r s m p [] rest = refl
follow_append r s m p (t ∷ path) rest =
    by_reply (seek r t p.at (part s p)) (λ q e. rw e (follow_append r s (m + 1) q path rest)) (λ k e. rw e)

-- the same at every level, in a record that is not shorter: a path that goes on in a value entered does not see what
-- stands after that value (rule 6.14)
pub path_entered_after_unseen : (r : Reading) (s s' : List ℕ) → length s ≤ length s' → (t : ℕ) (path rest : List ℕ) (q : Found)
    → lookup r s (t ∷ path) ≡ ok q → take (q.at + q.len) s' ≡ take (q.at + q.len) s
    → lookup r s' ((t ∷ path) ++ rest) ≡ lookup r s ((t ∷ path) ++ rest)
path_entered_after_unseen r s s' long t path rest q e same =
    let front = front_less s s' (q.at + q.len) same q.at (omega arith) in
    follow_append r s' 0 (whole_record s') (t ∷ path) rest
    ∙ rw (lookup_front r s s' long t path q e front) (follow_entered r s s' rest q.matched (span_of q) same)
    ∙ sym (rw e at (follow_append r s 0 (whole_record s) (t ∷ path) rest))
