-- Where a lookup ends, and how many tags of its path matched (rules 15.2 to 15.5).
use Prim.Native.Nat.{ℕ, suc, ◌+◌, ◌≤◌}
use mathlib.Core.Path.{◌≡◌, refl, sym, ap, ◌∙◌, subst}
use mathlib.Core.Logic.{inl, inr}
use mathlib.Core.List.{List, [], ◌∷◌, ◌++◌}
use native.Mathlib.Nat.{zero-add, add-zero, add-sub_cancel_left, min-eq_left, min-eq_right}
use native.Mathlib.Omega.{arith}
use lib.Dec.{eqb}
use lib.ListN.{length, take, drop, get_or, length-drop, length-append, drop_of_length-le}
use lib.Seq.{take_at, length-take-le, get_or-append-add}
use borrow.Author.Tests.{eqb-false, eqb-true}
use Rattle.basis.specs.Reply.{Told, ok, refused}
use Rattle.basis.specs.Every.{Every}
use Rattle.basis.proofs.Reply.{All, by_reply, all_is, all_weaken, refused_not_ok}
use Rattle.basis.proofs.Over.{drop_take}
use Rattle.tlv.specs.Object.{Item, Stop, object_at}
use Rattle.tlv.specs.Walk.{walk}
use Rattle.tlv.specs.Lookup.{Span, part, whole_record, value_of, first_value, seek, Found, Halt, found_by, span_of, follow, lookup}
use Rattle.tlv.specs.declared.Reading.{Reading}
use Rattle.tlv.proofs.Walk.{next_nothing, lookup_inside}
use Rattle.tlv_laws.specs.Walked.{ReadOn, ReadTo}
use Rattle.tlv_laws.specs.Place.{up_to, stop_of, StopsAt, FoundThere}
use Rattle.tlv_laws.proofs.TruthValues.{by_test}
use Rattle.tlv_laws.proofs.AfterMatch.{follow_append}
use Rattle.tlv_laws.proofs.Walked.{read_on, read_stop, walk_stops}

-- a path leads to a value by all of its tags
follow_matched : (r : Reading) (s : List ℕ) (m : ℕ) (p : Span) (path : List ℕ)
    → All (λ q. q.matched ≡ m + length path) (follow r s m p path)
unfolding follow
follow_matched r s m p [] = omega arith
follow_matched r s m p (t ∷ path) =
    by_reply (seek r t p.at (part s p)) (λ q e.
    rw e (all_weaken (λ q. q.matched ≡ m + suc (length path)) (λ q. q.matched ≡ m + 1 + length path) (follow r s (m + 1) q path)
    (λ q h. omega arith) (follow_matched r s (m + 1) q path)))
    (λ k e. rw e tt)

pub value_matched : (r : Reading) (s path : List ℕ) (q : Found) → lookup r s path ≡ ok q → q.matched ≡ length path
value_matched r s path q e =
    all_is (λ q. q.matched ≡ length path) (lookup r s path) q (rw zero-add at (follow_matched r s 0 (whole_record s) path)) e

-- an empty path leads to the whole record, and no tag matches
pub empty_path : (r : Reading) (s : List ℕ) → lookup r s [] ≡ ok (record { at = 0; len = length s; matched = 0 })
unfolding follow
empty_path r s = refl

-- the part that a path leads to: the bytes up to its end, and what stands in them from its start on
module _ (r : Reading) (s path : List ℕ) (q : Found) (led : lookup r s path ≡ ok q) where
  up_to_length : length (up_to q s) ≡ q.at + q.len
  up_to_length = length-take-le (q.at + q.len) s (lookup_inside r s path q led)

  part_there : drop q.at (up_to q s) ≡ part s (span_of q)
  part_there = drop_take q.at (q.at + q.len) s ∙ rw add-sub_cancel_left

  part_length : length (part s (span_of q)) ≡ q.len
  part_length = sym (ap length part_there) ∙ simp (length-drop, up_to_length) (omega arith)

-- a path that is refused, divided where that is: its front leads to a part q in which the next tag is not found
record Divided (r : Reading) (s : List ℕ) (m : ℕ) (p : Span) (path : List ℕ) (h : Halt) : Type 0 where
  front : List ℕ
  t : ℕ
  rest : List ℕ
  q : Found
  parts : path ≡ front ++ (t ∷ rest)
  led : follow r s m p front ≡ ok q
  missing : seek r t q.at (part s (span_of q)) ≡ refused (stop_of h)
  matched : q.matched ≡ h.matched

-- the stop of a refusal, and how many tags matched
abbrev stop_told : Stop → Told Halt Found → Stop
stop_told e (ok q) = e
stop_told e (refused h) = stop_of h

abbrev matched_told : ℕ → Told Halt Found → ℕ
matched_told m (ok q) = m
matched_told m (refused h) = h.matched

follow_divided : (r : Reading) (s : List ℕ) (m : ℕ) (p : Span) (path : List ℕ) (h : Halt) → follow r s m p path ≡ refused h
    → Divided r s m p path h
unfolding follow
follow_divided r s m p [] h e = absurd (refused_not_ok h _ (sym e))
follow_divided r s m p (t ∷ path) h e =
    by_reply (seek r t p.at (part s p)) (λ q f.
    let d = follow_divided r s (m + 1) q path h (rw f at e) in
    record {
      front = t ∷ d.front;
      t = d.t;
      rest = d.rest;
      q = d.q;
      parts = ap (λ (l : List ℕ). t ∷ l) d.parts;
      led = rw f d.led;
      missing = d.missing;
      matched = d.matched;
    })
    (λ k f.
    let told : refused (record { number = k.number; place = k.place; matched = m }) ≡ refused h = rw f at e in
    record {
      front = [];
      t = t;
      rest = path;
      q = found_by m p;
      parts = refl;
      led = refl;
      missing = f ∙ ap refused (ap (stop_told k) told);
      matched = ap (matched_told 0) told;
    })

-- a walk in which a tag is not found
first_refused : (t : ℕ) (l : List Item) (e x : Stop) → first_value t l e ≡ refused x → (e ≡ x) × Every (λ i. i.tag ≡ t → ⊥) l
unfolding first_value
first_refused t [] e x h = (cc, tt)
first_refused t (i ∷ l) e x h =
    by_test (eqb i.tag t) (λ g. absurd (refused_not_ok x _ (sym (rw g at h)))) (λ g.
    let d = first_refused t l e x (rw g at h) in
    (d.0, (eqb-false i.tag t g, d.1)))

-- the place of a refusal, and how many tags matched
pub stop_place : (r : Reading) (s path : List ℕ) (h : Halt) → lookup r s path ≡ refused h → StopsAt r s path h
unfolding seek
stop_place r s path h e =
    let c = follow_divided r s 0 (whole_record s) path h e in
    let q = c.q in
    let b = part s (span_of q) in
    let long = up_to_length r s c.front q c.led in
    let there = part_there r s c.front q c.led in
    let size = part_length r s c.front q c.led in
    let w = walk r q.at b in
    let n = first_refused c.t w.items w.stop (stop_of h) c.missing in
    let on = rw n.0 at (read_on r (up_to q s) q.at b there) in
    let stops = rw n.0 at (walk_stops r q.at b) in
    let stop = read_stop r (up_to q s) w.items (stop_of h) q.at on in
    let before : h.place ≤ length (up_to q s) = elim stops [ inl f ↦ omega (arith, f.1, size, long) | inr f ↦ omega (arith, f.2, size, long) ] in
    let count : length c.front ≡ h.matched = sym (value_matched r s c.front q c.led) ∙ c.matched in
    let short : take h.matched path ≡ c.front =
    ap (take h.matched) c.parts ∙ take_at c.front (c.t ∷ c.rest) h.matched count in
    let next : get_or path h.matched 0 ≡ c.t =
    ap (λ (m : List ℕ). get_or m h.matched 0) c.parts
    ∙ ap (λ (n : ℕ). get_or (c.front ++ (c.t ∷ c.rest)) n 0) (sym count ∙ sym (add-zero (length c.front)))
    ∙ get_or-append-add c.front (c.t ∷ c.rest) 0 0 in
    record {
      below = omega (arith, ap length c.parts, length-append c.front (c.t ∷ c.rest), count);
      q = q;
      led = ap (λ (l : List ℕ). lookup r s l) short ∙ c.led;
      inside = lookup_inside r s c.front q c.led;
      items = w.items;
      walked = on;
      others = rw next n.1;
      read = rw (min-eq_left {n = h.place} {m = length (up_to q s)} before, stop, add-zero);
      place = elim stops [
        | inl f ↦ inl (f.0, omega (arith, f.1, size))
        | inr f ↦ inr (f.0, f.1, omega (arith, f.2, size))
      ];
    }

-- a walk in which a tag is found, divided there
record FirstOf (t : ℕ) (l : List Item) (p : Span) : Type 0 where
  front : List Item
  item : Item
  after : List Item
  parts : l ≡ front ++ (item ∷ after)
  others : Every (λ j. j.tag ≡ t → ⊥) front
  tagged : item.tag ≡ t
  value : value_of item ≡ p

first_found : (t : ℕ) (l : List Item) (e : Stop) (p : Span) → first_value t l e ≡ ok p → FirstOf t l p
unfolding first_value
first_found t [] e p h = absurd (refused_not_ok e p h)
first_found t (j ∷ l) e p h =
    by_test (eqb j.tag t) (λ g.
    record { front = []; item = j; after = l; parts = refl; others = tt; tagged = eqb-true j.tag t g; value = cc (rw g at h) })
    (λ g.
    let d = first_found t l e p (rw g at h) in
    record {
      front = j ∷ d.front;
      item = d.item;
      after = d.after;
      parts = ap (λ (x : List Item). j ∷ x) d.parts;
      others = (eqb-false j.tag t g, d.others);
      tagged = d.tagged;
      value = d.value;
    })

read_to : (r : Reading) (s : List ℕ) (a : ℕ) (front after : List Item) (i : Item) (e : Stop) → ReadOn r s a (front ++ (i ∷ after)) e
    → ReadTo r s a front i
read_to r s a [] after i e h = h.0
read_to r s a (j ∷ front) after i e h = (h.0, read_to r s (j.at + j.len) front after i e h.1)

-- the value found by a path and one tag after it, from the part that the path leads to
found_in : (r : Reading) (s path : List ℕ) (t : ℕ) (p : Found) (v : Span) → lookup r s path ≡ ok p
    → seek r t p.at (part s (span_of p)) ≡ ok v → FoundThere r s path t (found_by (p.matched + 1) v)
unfolding seek
found_in r s path t p v led f =
    let w = walk r p.at (part s (span_of p)) in
    let d = first_found t w.items w.stop v f in
    let on = read_on r (up_to p s) p.at (part s (span_of p)) (part_there r s path p led) in
    record {
      p = p;
      led = led;
      items = d.front;
      item = d.item;
      walked = read_to r (up_to p s) p.at d.front d.after d.item w.stop
          (subst (λ (x : List Item). ReadOn r (up_to p s) p.at x w.stop) d.parts on);
      others = d.others;
      tagged = d.tagged;
      value = ap (found_by (p.matched + 1)) (sym d.value);
    }

-- the place of a value, and how many tags matched
pub value_place : (r : Reading) (s path : List ℕ) (t : ℕ) (q : Found) → lookup r s (path ++ (t ∷ [])) ≡ ok q → FoundThere r s path t q
unfolding follow
value_place r s path t q e =
    let divided = sym (follow_append r s 0 (whole_record s) path (t ∷ [])) ∙ e in
    by_reply (lookup r s path) (λ p f.
    let one : follow r s p.matched (span_of p) (t ∷ []) ≡ ok q = rw f at divided in
    by_reply (seek r t p.at (part s (span_of p))) (λ v g.
    let same : found_by (p.matched + 1) v ≡ q = cc (rw g at one) in
    subst (FoundThere r s path t) same (found_in r s path t p v f g))
    (λ k g. absurd (refused_not_ok _ q (rw g at one))))
    (λ k f. absurd (refused_not_ok k q (rw f at divided)))

-- past the end of a record there is no object: 11, at the end (rule 15.2)
pub object_past : (r : Reading) (s : List ℕ) (at : ℕ) → length s ≤ at
    → object_at r s at ≡ refused (record { number = 11; place = length s })
object_past r s at h = rw (drop_of_length-le s h, min-eq_right h, next_nothing r, add-zero)
