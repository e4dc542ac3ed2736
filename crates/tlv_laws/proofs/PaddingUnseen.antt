-- Zero bytes between the objects of a record or of a value, before the first or after the last: a lookup that goes on
-- into that part by one tag or more shows the same value, or the same number of a refusal, and as many tags match (rule
-- 16.8). The part itself, which a path that ends there shows, has the zero bytes.
use Prim.Native.Nat.{ℕ, ◌+◌}
use mathlib.Core.Path.{◌≡◌, refl, sym, ap, ◌∙◌}
use mathlib.Core.Logic.{inl, inr}
use mathlib.Core.List.{List, [], ◌∷◌, ◌++◌}
use native.Mathlib.Nat.{add-zero, zero-add}
use native.Mathlib.Omega.{arith}
use lib.Dec.{eqb}
use lib.ListN.{length, take, drop, length-drop, length-append}
use lib.Seq.{take-length, take-append-le, drop_at, drop-append-le, drop-append_seam, drop-append-add, drop-drop}
use Rattle.basis.specs.Reply.{Told, ok, refused}
use Rattle.basis.proofs.Reply.{by_reply, refused_not_ok}
use Rattle.tlv.specs.Padding.{padding}
use Rattle.tlv.specs.Object.{Item, Stop, next_of, size_of}
use Rattle.tlv.specs.Walk.{Walk, walk}
use Rattle.tlv.specs.Lookup.{Span, part, whole_record, seek, Found, Halt, span_of, follow, lookup}
use Rattle.tlv.specs.declared.Reading.{Reading}
use Rattle.tlv.specs.declared.Reading.TheVariants.{Standard}
use Rattle.tlv.proofs.Within.{next_inside}
use Rattle.tlv.proofs.Walk.{next_nothing, walk_refused, walk_met, by_objects, seek_is, seek_inside}
use Rattle.tlv.proofs.Entered.{moved_span, seek_moved, part_part}
use Rattle.tlv_laws.specs.Padding.{zero_bytes, Value, Refusal, shown}
use Rattle.tlv_laws.proofs.TruthValues.{by_test}
use Rattle.tlv_laws.proofs.FrontOfBytes.{next_front}
use Rattle.tlv_laws.proofs.Padded.{walk_padded, seek_padded}
use Rattle.tlv_laws.proofs.Boundary.{refused_where}
use Rattle.tlv_laws.proofs.AfterMatch.{follow_append}
use Rattle.tlv_laws.proofs.Place.{value_matched}
use Rattle.tlv_laws.proofs.ZeroBytes.{zero_bytes_lem, zeros_only}

-- a search from place 0 on, in bytes that stand at place a
seek_from : (r : Reading) (t a : ℕ) (s : List ℕ) → seek r t a s ≡ moved_span a (seek r t 0 s)
seek_from r t a s = rw (add-zero a) at (seek_moved r t a 0 s)

-- a path shows the same in two parts with the same bytes
module _ (r : Reading) (s s' : List ℕ) where
  follow_shown : (path : List ℕ) (m : ℕ) (p p' : Span) → part s p ≡ part s' p'
      → shown s (follow r s m p path) ≡ shown s' (follow r s' m p' path)
  unfolding follow
  follow_shown [] m p p' e = rw e
  follow_shown (t ∷ path) m p p' e =
      let b = part s p in
      rw (← e, seek_from r t p.at b, seek_from r t p'.at b)
      (by_reply (seek r t 0 b)
      (λ q f.
      let inside = seek_inside r b t 0 q f in
      let here = part_part s p q (omega (arith, inside)) in
      let there = part_part s' p' q (rw (← e) (omega (arith, inside))) in
      rw f (follow_shown path (m + 1) _ _ (here ∙ ap (λ (l : List ℕ). part l q) e ∙ sym there)))
      (λ k f. rw f))

-- two searches with one outcome: values with the same bytes, or refusals with the same number
abbrev Same : List ℕ → List ℕ → Told Stop Span → Told Stop Span → Type 0
Same u u' (ok q) (ok q') = part u q ≡ part u' q'
Same u u' (ok q) (refused e) = ⊥
Same u u' (refused e) (ok q) = ⊥
Same u u' (refused e) (refused e') = e.number ≡ e'.number

same_moved : (u u' : List ℕ) (n n' : ℕ) (x y : Told Stop Span) → Same (drop n u) (drop n' u') x y
    → Same u u' (moved_span n x) (moved_span n' y)
same_moved u u' n n' (ok q) (ok q') h = rw (← drop-drop q.at n u, ← drop-drop q'.at n' u') h
same_moved u u' n n' (ok q) (refused e) h = h
same_moved u u' n n' (refused e) (ok q) h = h
same_moved u u' n n' (refused e) (refused e') h = h

same_self : (u : List ℕ) (x : Told Stop Span) → Same u u x x
same_self u (ok q) = refl
same_self u (refused e) = refl

-- bytes x that end where an object may start, then k zero bytes, then y: the search is that without the zero bytes
module _ (t k : ℕ) (y : List ℕ) where
  abbrev padded : List ℕ
  padded = zero_bytes k ++ y

  abbrev Unseen : List ℕ → Type 0
  Unseen x = Same (x ++ padded) (x ++ y) (seek Standard t 0 (x ++ padded)) (seek Standard t 0 (x ++ y))

  -- x is padding
  only_unseen : (x : List ℕ) → padding Standard x ≡ length x → Unseen x
  only_unseen x only =
      let n = length x in
      let found = seek Standard t 0 y in
      let place : 0 + n + length (zero_bytes k) ≡ n + k = omega (arith, zero_bytes_lem k) in
      let with-zeros : seek Standard t 0 (x ++ padded) ≡ moved_span (n + k) found =
      seek_padded Standard x only t 0 padded ∙ seek_padded Standard (zero_bytes k) (zeros_only k) t (0 + n) y
      ∙ ap (λ (j : ℕ). seek Standard t j y) place ∙ seek_from Standard t (n + k) y in
      let without : seek Standard t 0 (x ++ y) ≡ moved_span n found =
      seek_padded Standard x only t 0 y ∙ ap (λ (j : ℕ). seek Standard t j y) (zero-add n) ∙ seek_from Standard t n y in
      let rest : drop (n + k) (x ++ padded) ≡ y = drop-append-add x padded k ∙ drop_at (zero_bytes k) y k (zero_bytes_lem k) in
      rw (with-zeros, without) (same_moved (x ++ padded) (x ++ y) (n + k) n found found
      (rw (rest, drop-append_seam x y) (same_self y found)))

  -- x starts with an object: its value stands in x; or the search goes on after it
  module _ (x : List ℕ) (i : Item) (e : next_of Standard x ≡ ok i) where
    read : (w : List ℕ) → next_of Standard (x ++ w) ≡ ok i
    read w =
        let inside = next_inside Standard x i e in
        next_front Standard x (x ++ w) i e (take-append-le i.at x w (omega (arith, inside)))
        (simp length-append (omega (arith, inside)))

    value_in : (w : List ℕ) → take i.len (drop (0 + i.at) (x ++ w)) ≡ take i.len (drop i.at x)
    value_in w =
        let inside = next_inside Standard x i e in
        rw (zero-add i.at, drop-append-le i.at x w (omega (arith, inside)))
        (take-append-le i.len (drop i.at x) w (omega (arith, inside, length-drop i.at x)))

    after : (w : List ℕ) → seek Standard t (0 + size_of i) (drop (size_of i) (x ++ w))
        ≡ moved_span (size_of i) (seek Standard t 0 (drop (size_of i) x ++ w))
    after w =
        let inside = next_inside Standard x i e in
        rw (drop-append-le (size_of i) x w (omega (arith, inside)), zero-add (size_of i)) (seek_from Standard t (size_of i) (drop (size_of i) x ++ w))

    item_unseen : Unseen (drop (size_of i) x) → Unseen x
    item_unseen deeper =
        let inside = next_inside Standard x i e in
        let n = size_of i in
        let rest = drop n x in
        rw (seek_is Standard t 0 (x ++ padded) i (read padded), seek_is Standard t 0 (x ++ y) i (read y))
        (by_test (eqb i.tag t) (λ g. rw g (value_in padded ∙ sym (value_in y))) (λ g.
        rw (g, after padded, after y) (same_moved (x ++ padded) (x ++ y) n n (seek Standard t 0 (rest ++ padded)) (seek Standard t 0 (rest ++ y))
        (rw (drop-append-le n x padded (omega (arith, inside)), drop-append-le n x y (omega (arith, inside))) deeper))))

  level_unseen : (a : ℕ) (x : List ℕ) → (walk Standard a x).stop.number ≡ 11 → Unseen x
  level_unseen =
      by_objects Standard (λ a x. (walk Standard a x).stop.number ≡ 11 → Unseen x)
      (λ a x e h eleven.
      let number : e.number ≡ 11 = rw (walk_refused Standard a x e h) at eleven in
      elim (refused_where Standard x e h) [ inl f ↦ only_unseen x f.2 | inr f ↦ absurd (omega (arith, number, f.0)) ])
      (λ a x i e w deeper eleven. item_unseen x i e (deeper (rw (walk_met Standard a x i e) at eleven)))

-- the front of a path leads to a part p of s and p' of s'. The part p' has k zero bytes more than p, after bytes x that
-- are whole objects and padding: the whole path shows the same in both
module _ (s s' front : List ℕ) (p p' : Found) (x y : List ℕ) (k : ℕ) (led : lookup Standard s front ≡ ok p)
    (led' : lookup Standard s' front ≡ ok p') (level : part s (span_of p) ≡ x ++ y) (level' : part s' (span_of p') ≡ x ++ (zero_bytes k ++ y))
    (whole : (walk Standard 0 x).stop.number ≡ 11) where
  abbrev looked : List ℕ → List ℕ → Told Refusal Value
  looked l path = shown l (lookup Standard l path)

  pub padding_unseen : (t : ℕ) (rest : List ℕ) → looked s' (front ++ (t ∷ rest)) ≡ looked s (front ++ (t ∷ rest))
  unfolding follow
  padding_unseen t rest =
      let m = length front in
      let u = x ++ (zero_bytes k ++ y) in
      let w = x ++ y in
      let same = level_unseen t k y 0 x whole in
      rw (
        follow_append Standard s 0 (whole_record s) front (t ∷ rest),
        follow_append Standard s' 0 (whole_record s') front (t ∷ rest),
        led,
        led',
        value_matched Standard s front p led,
        value_matched Standard s' front p' led',
        level,
        level',
        seek_from Standard t p.at w,
        seek_from Standard t p'.at u,
      )
      (by_reply (seek Standard t 0 u)
      (λ q f. by_reply (seek Standard t 0 w)
      (λ v g.
      let bytes : part u q ≡ part w v = rw (f, g) at same in
      let there = part_part s' (span_of p') q (rw level' (omega (arith, seek_inside Standard u t 0 q f))) in
      let here = part_part s (span_of p) v (rw level (omega (arith, seek_inside Standard w t 0 v g))) in
      rw (f, g) (follow_shown Standard s' s rest (m + 1) _ _
      (there ∙ ap (λ (l : List ℕ). part l q) level' ∙ bytes ∙ ap (λ (l : List ℕ). part l v) (sym level) ∙ sym here)))
      (λ j g. absurd (rw (f, g) at same)))
      (λ e f. by_reply (seek Standard t 0 w)
      (λ v g. absurd (rw (f, g) at same))
      (λ j g. let number : e.number ≡ j.number = rw (f, g) at same in rw (f, g, number))))

-- the same at the top level of a record
pub padding_unseen_at_the_top : (x y : List ℕ) (k : ℕ) → (walk Standard 0 x).stop.number ≡ 11 → (t : ℕ) (rest : List ℕ)
    → shown (x ++ (zero_bytes k ++ y)) (lookup Standard (x ++ (zero_bytes k ++ y)) (t ∷ rest))
    ≡ shown (x ++ y) (lookup Standard (x ++ y) (t ∷ rest))
unfolding follow
padding_unseen_at_the_top x y k whole =
    padding_unseen (x ++ y) (x ++ (zero_bytes k ++ y)) [] _ _ x y k refl refl (take-length (x ++ y))
    (take-length (x ++ (zero_bytes k ++ y))) whole

-- in plain words: what two lookups that show the same have in common
abbrev bytes_shown : Told Refusal Value → List ℕ
bytes_shown (ok v) = v.bytes
bytes_shown (refused h) = []

abbrev matched_shown : Told Refusal Value → ℕ
matched_shown (ok v) = v.matched
matched_shown (refused h) = h.matched

abbrev number_shown : Told Refusal Value → ℕ
number_shown (ok v) = 0
number_shown (refused h) = h.number

module _ (s s' : List ℕ) (x x' : Told Halt Found) (same : shown s' x' ≡ shown s x) where
  pub shown_found : (p : Found) → x ≡ ok p
      → (p' : Found) × ((x' ≡ ok p') × (part s' (span_of p') ≡ part s (span_of p)) × (p'.matched ≡ p.matched))
  shown_found p e =
      by_reply x'
      (λ p' f. let t : shown s' (ok p') ≡ shown s (ok p) = rw (f, e) at same in (p', (f, ap bytes_shown t, ap matched_shown t)))
      (λ h f. absurd (refused_not_ok _ _ (rw (f, e) at same)))

  pub shown_refused : (h : Halt) → x ≡ refused h
      → (h' : Halt) × ((x' ≡ refused h') × (h'.number ≡ h.number) × (h'.matched ≡ h.matched))
  shown_refused h e =
      by_reply x'
      (λ p f. absurd (refused_not_ok _ _ (sym (rw (f, e) at same))))
      (λ h' f. let t : shown s' (refused h') ≡ shown s (refused h) = rw (f, e) at same in (h', (f, ap number_shown t, ap matched_shown t)))

-- bytes whose walk stops with 11, as padding_unseen asks for: no bytes, and such bytes after such bytes
pub whole_none : (r : Reading) → (walk r 0 []).stop.number ≡ 11
whole_none r = rw (walk_refused r 0 [] _ (next_nothing r))

module _ (r : Reading) (y : List ℕ) where
  stops_after : (a : ℕ) (x : List ℕ) → (walk r a x).stop.number ≡ 11 → (walk r a (x ++ y)).stop ≡ (walk r (a + length x) y).stop
  stops_after =
      by_objects r (λ a x. (walk r a x).stop.number ≡ 11 → (walk r a (x ++ y)).stop ≡ (walk r (a + length x) y).stop)
      (λ a x e h eleven.
      let number : e.number ≡ 11 = rw (walk_refused r a x e h) at eleven in
      elim (refused_where r x e h) [ inl f ↦ ap (λ (w : Walk). w.stop) (walk_padded r x f.2 a y) | inr f ↦ absurd (omega (arith, number, f.0)) ])
      (λ a x i e w deeper eleven.
      let inside = next_inside r x i e in
      let k = size_of i in
      let read = next_front r x (x ++ y) i e (take-append-le i.at x y (omega (arith, inside))) (simp length-append (omega (arith, inside))) in
      let place : a + k + length (drop k x) ≡ a + length x = simp length-drop (omega (arith, inside)) in
      rw (walk_met r a (x ++ y) i read, drop-append-le k x y (omega (arith, inside)), ← place) (deeper (rw (walk_met r a x i e) at eleven)))

  stop_number : (a b : ℕ) (s : List ℕ) → (walk r a s).stop.number ≡ (walk r b s).stop.number
  stop_number a b s = by_objects r (λ a s. (b : ℕ) → (walk r a s).stop.number ≡ (walk r b s).stop.number)
      (λ a s e h b. rw (walk_refused r a s e h, walk_refused r b s e h))
      (λ a s i e w deeper b. rw (walk_met r a s i e, walk_met r b s i e) (deeper (b + size_of i))) a s b

  pub whole_append : (x : List ℕ) → (walk r 0 x).stop.number ≡ 11 → (walk r 0 y).stop.number ≡ 11 → (walk r 0 (x ++ y)).stop.number ≡ 11
  whole_append x h g = ap (λ (e : Stop). e.number) (stops_after 0 x h) ∙ stop_number (0 + length x) 0 y ∙ g
