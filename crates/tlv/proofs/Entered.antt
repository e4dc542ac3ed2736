-- A value that is entered: a path followed from a part of the record is the path looked up in the bytes of that part,
-- with its places moved; and what a lookup tells lies in the record.
use Prim.Native.Nat.{ℕ, ◌+◌, ◌-◌, ◌≤◌}
use mathlib.Core.Path.{◌≡◌, refl, sym, ap, subst}
use mathlib.Core.Bool.{Bool, true, false, cond}
use mathlib.Core.List.{List, [], ◌∷◌}
use native.Mathlib.Nat.{add_assoc, add-zero}
use native.Mathlib.Omega.{arith}
use lib.Dec.{eqb}
use lib.ListN.{length, drop, length-drop, length-take}
use lib.Seq.{take-take, drop-drop}
use Rattle.basis.specs.Reply.{Told, ok, refused}
use Rattle.basis.proofs.Reply.{by_reply, refused_not_ok}
use Rattle.basis.proofs.Over.{drop_take}
use Rattle.basis.proofs.Truth.{on_cond}
use Rattle.tlv.specs.Object.{object_of, Stop, next_of, size_of}
use Rattle.tlv.specs.Padding.{padding}
use Rattle.tlv.specs.Lookup.{Span, part, whole_record, seek, Found, Halt, follow, lookup}
use Rattle.tlv.specs.declared.Reading.{Reading}
use Rattle.tlv.proofs.Zeros.{padding_within}
use Rattle.tlv.proofs.Walk.{by_objects, seek_refused, seek_is, seek_inside}

-- a search in bytes that start k bytes further on
abbrev pub moved_span : ℕ → Told Stop Span → Told Stop Span
moved_span k (ok q) = ok (record { at = k + q.at; len = q.len })
moved_span k (refused e) = refused (record { number = e.number; place = k + e.place })

moved_choice : (k : ℕ) (b : Bool) (x y : Told Stop Span) → moved_span k (cond b x y) ≡ cond b (moved_span k x) (moved_span k y)
moved_choice k true x y = refl
moved_choice k false x y = refl

pub seek_moved : (r : Reading) (t k a : ℕ) (s : List ℕ) → seek r t (k + a) s ≡ moved_span k (seek r t a s)
seek_moved r t k =
    by_objects r (λ a s. seek r t (k + a) s ≡ moved_span k (seek r t a s))
    (λ a s e h. rw (seek_refused r t (k + a) s e h, seek_refused r t a s e h, add_assoc))
    (λ a s i e w deeper.
    rw (seek_is r t (k + a) s i e, seek_is r t a s i e, add_assoc k a i.at, add_assoc k a (size_of i), deeper)
    (sym (moved_choice k (eqb i.tag t) _ _)))

-- the reply of a lookup, moved by k places, and with m tags more that matched
abbrev pub entered_by : ℕ → ℕ → Told Halt Found → Told Halt Found
entered_by k m (ok p) = ok (record { at = k + p.at; len = p.len; matched = m + p.matched })
entered_by k m (refused h) = refused (record { number = h.number; place = k + h.place; matched = m + h.matched })

-- a part of a part is a part of the record
pub part_part : (s : List ℕ) (p q : Span) → q.at + q.len ≤ length (part s p)
    → part s (record { at = p.at + q.at; len = q.len }) ≡ part (part s p) q
part_part s p q h =
    let short : q.len ≤ p.len - q.at = omega (arith, h, length-take p.len (drop p.at s)) in
    rw (
      drop_take q.at p.len (drop p.at s),
      take-take q.len (p.len - q.at) (drop q.at (drop p.at s)) short,
      drop-drop q.at p.at s,
    )

-- a path from a part of the record is the path in the bytes of that part
module _ (r : Reading) (s : List ℕ) (m a n : ℕ) where
  abbrev entered : List ℕ
  entered = part s (record { at = a; len = n })

  entered_at : (k : ℕ) (q : Span) (path : List ℕ) → q.at + q.len ≤ length entered
      → follow r s (m + k) (record { at = a + q.at; len = q.len }) path ≡ entered_by a m (follow r entered k q path)
  unfolding follow
  entered_at k q [] h = refl
  entered_at k q (t ∷ path) h =
      let b = part entered q in
      rw (part_part s (record { at = a; len = n }) q h, seek_moved r t a q.at b)
      (by_reply (seek r t q.at b) (λ x e.
      let l = seek_inside r b t q.at x e in
      let size = length-take q.len (drop q.at entered) in
      rw (e, add_assoc m k 1) (entered_at (k + 1) x path (omega (arith, l, size, h))))
      (λ e f. rw f))

  pub follow_entered : (path : List ℕ) → a + n ≤ length s
      → follow r s m (record { at = a; len = n }) path ≡ entered_by a m (lookup r entered path)
  follow_entered path h =
      let size : length entered ≡ n = omega (arith, length-take n (drop a s), length-drop a s) in
      rw size (rw (add-zero m, add-zero a, size) at (entered_at 0 (whole_record entered) path (omega (arith, size))))

-- a search that finds nothing ends in the bytes
abbrev Ended : ℕ → Told Stop Span → Type 0
Ended n (ok q) = Unit {0}
Ended n (refused e) = e.place ≤ n

next_ends : (r : Reading) (s : List ℕ) (e : Stop) → next_of r s ≡ refused e → e.place ≤ length s
unfolding next_of
next_ends r s e h =
    let k = padding r s in
    by_reply (object_of r (drop k s)) (λ o f. absurd (refused_not_ok e _ (sym (rw f at h)))) (λ j f.
    let same : record { number = j; place = k } ≡ e = cc (rw f at h) in
    omega (arith, ap (λ (x : Stop). x.place) same, padding_within r s))

seek_ended : (r : Reading) (t a : ℕ) (s : List ℕ) → Ended (a + length s) (seek r t a s)
seek_ended r t =
    by_objects r (λ a s. Ended (a + length s) (seek r t a s)) (λ a s e h. rw (seek_refused r t a s e h) (omega (arith, next_ends r s e h)))
    (λ a s i e w deeper.
    let size : a + size_of i + length (drop (size_of i) s) ≡ a + length s = omega (arith, length-drop (size_of i) s) in
    rw (seek_is r t a s i e) (on_cond (Ended (a + length s)) (eqb i.tag t) _ _ (λ _. tt) (λ _. rw size at deeper)))

pub seek_ends : (r : Reading) (t a : ℕ) (s : List ℕ) (e : Stop) → seek r t a s ≡ refused e → e.place ≤ a + length s
seek_ends r t a s e h = subst (Ended (a + length s)) h (seek_ended r t a s)

-- what a lookup tells lies in the record, and no more tags match than the path has
abbrev pub Tells : ℕ → ℕ → Told Halt Found → Type 0
Tells n m (ok p) = (p.at + p.len ≤ n) × (p.matched ≤ m)
Tells n m (refused h) = (h.place ≤ n) × (h.matched ≤ m)

follow_tells : (r : Reading) (s : List ℕ) (m : ℕ) (p : Span) (path : List ℕ) → p.at + p.len ≤ length s
    → Tells (length s) (m + length path) (follow r s m p path)
unfolding follow
follow_tells r s m p [] h = (h, omega arith)
follow_tells r s m p (t ∷ path) h =
    let b = part s p in
    let size = length-take p.len (drop p.at s) in
    by_reply (seek r t p.at b) (λ q e.
    let l = seek_inside r b t p.at q e in
    let more : m + length (t ∷ path) ≡ m + 1 + length path = omega arith in
    rw (e, more) (follow_tells r s (m + 1) q path (omega (arith, l, size, length-drop p.at s))))
    (λ e f. rw f (omega (arith, seek_ends r t p.at b e f, size, length-drop p.at s), omega arith))

pub lookup_tells : (r : Reading) (s path : List ℕ) → Tells (length s) (length path) (lookup r s path)
lookup_tells r s path = let none : 0 + length path ≡ length path = omega arith in rw none at (follow_tells r s 0 (whole_record s) path (omega arith))
