-- Whatever bytes stand in a value that a lookup passes over, or after the part that it enters last, the lookup is the
-- same (rules 6.11, 6.14 and 11.12).
use Prim.Native.Nat.{ℕ, ◌+◌, ◌-◌, ◌≤◌, ◌<◌}
use mathlib.Core.Path.{◌≡◌, sym, ap, ◌∙◌}
use mathlib.Core.Bool.{true, false, true≢false}
use mathlib.Core.List.{List, [], ◌∷◌, ◌++◌, append_assoc}
use native.Mathlib.Decide.{dec_lt}
use native.Mathlib.Omega.{arith}
use lib.ListN.{length, get_or, take, drop, length-take, length-drop, length-append, get_or-append}
use lib.Seq.{get_or-take, get_or-drop, get_or-append-add, length-take-le, take-append-le, drop-append-le}
use Rattle.basis.specs.Reply.{ok, refused}
use Rattle.basis.specs.Over.{over_at}
use Rattle.basis.proofs.Reply.{by_reply, refused_not_ok}
use Rattle.basis.proofs.Over.{length_over_at}
use Rattle.tlv.specs.Object.{Item, next_of, size_of}
use Rattle.tlv.specs.Lookup.{part, whole_record, seek, Found, Halt, found_by, span_of, follow, lookup, value_in}
use Rattle.tlv.specs.declared.Reading.{Reading}
use Rattle.tlv.proofs.Within.{next_inside}
use Rattle.tlv.proofs.Walk.{lookup_inside}
use Rattle.tlv_laws.specs.Plain.{number_only, plain}
use Rattle.tlv_laws.specs.Skipped.{passed_at, passed, last_entered, covered_by, aside, refill}
use Rattle.tlv_laws.proofs.FrontOfBytes.{next_front}
use Rattle.tlv_laws.proofs.AfterMatch.{follow_append}
use Rattle.tlv_laws.proofs.Boundary.{by_passed_objects, walked_at}
use Rattle.tlv_laws.proofs.Covered.{covered_first, covered_later}
use Rattle.tlv_laws.proofs.Skipped.{passed_padded, passed_next, passed_level, passed_entered, last_found, last_refused, found_outside}
use Rattle.tlv_laws.proofs.Aside.{passed_aside, after_aside, aside_unseen, aside_value, refilled_byte}

-- what is passed over after whole objects with other tags is passed over by the search that begins with these objects
passed_on : (r : Reading) (t i : ℕ) (y : List ℕ) (a : ℕ) (x : List ℕ) → number_only (seek r t a x) ≡ refused 11
    → covered_by (passed_at r t (a + length x) y) i ≡ true → covered_by (passed_at r t a (x ++ y)) i ≡ true
passed_on r t i y =
    by_passed_objects r t (λ a x. covered_by (passed_at r t (a + length x) y) i ≡ true → covered_by (passed_at r t a (x ++ y)) i ≡ true)
    (λ a x only h. rw (passed_padded r x only t a y) h) (λ a x o e other further h.
    let w = next_inside r x o e in
    let k = size_of o in
    let place : a + k + length (drop k x) ≡ a + length x = simp length-drop (omega arith) in
    let read = next_front r x (x ++ y) o e (take-append-le o.at x y (omega arith)) (simp length-append (omega arith)) in
    rw (passed_next r t a (x ++ y) o read other, drop-append-le k x y (omega arith))
    (covered_later _ _ i (further (rw place h))))

-- a list with other bytes v from place a on: all other bytes are as before
outside : (a : ℕ) (v s : List ℕ) → a + length v ≤ length s → (i : ℕ) → (a ≤ i → i < a + length v → ⊥)
    → get_or (take a s ++ (v ++ drop (a + length v) s)) i 0 ≡ get_or s i 0
outside a v s h i off =
    elim (dec_lt i a) [
      | yes g ↦
          get_or-append (take a s) (v ++ drop (a + length v) s) 0 i (simp length-take (omega arith)) ∙ get_or-take a s i 0 g
      | no g ↦
          elim (dec_lt i (a + length v)) [
            | yes f ↦ absurd (off (omega arith) f)
            | no f ↦
                let u = take a s ++ v in
                let n = i - (a + length v) in
                let size : length u ≡ a + length v = simp (length-append, length-take-le a s (omega arith)) in
                let place : length u + n ≡ i = omega arith in
                let back : a + length v + n ≡ i = omega arith in
                ap (λ (l : List ℕ). get_or l i 0) (sym (append_assoc (take a s) v (drop (a + length v) s)))
                ∙ rw place at (get_or-append-add u (drop (a + length v) s) n 0) ∙ get_or-drop (a + length v) s n 0
                ∙ ap (λ (j : ℕ). get_or s j 0) back
          ]
    ]

-- A value that a path passes over: the tags of the path before t lead to the part p. The first bytes x of that part are
-- whole objects, none of them with tag t, since t is refused in them with 11. The object o after them has another tag,
-- and its value stands at place a of the record.
module _ (r : Reading) (s path front rest : List ℕ) (t : ℕ) (p : Found) (x y : List ℕ) (o : Item) (a : ℕ)
    (parts : path ≡ front ++ (t ∷ rest)) (entered : lookup r s front ≡ ok p) (level : part s (span_of p) ≡ x ++ y)
    (walked : plain (lookup r x (t ∷ [])) ≡ refused 11) (object : next_of r y ≡ ok o) (other : o.tag ≡ t → ⊥)
    (place : a ≡ p.at + length x + o.at) where
  -- each place of that value is passed over
  pub value_passed : (i : ℕ) → a ≤ i → i < a + o.len → covered_by (passed r s path) i ≡ true
  value_passed i h g =
      let here : covered_by (passed_at r t (p.at + length x) y) i ≡ true =
      rw (passed_next r t (p.at + length x) y o object other) (covered_first _ _ i (omega arith) (omega arith)) in
      rw parts (passed_entered r s i front (t ∷ rest) 0 (whole_record s) p entered
      (passed_level r s i (span_of p) t rest (rw level (passed_on r t i y p.at x (walked_at r t x walked p.at) here))))

  value_inside : a + o.len ≤ length s
  value_inside =
      let l = lookup_inside r s front p entered in
      let w = next_inside r y o object in
      omega (arith, ap length level, length-append x y, length-take p.len (drop p.at s))

  -- `refill` has the byte of f there
  pub value_placed : (f : ℕ → ℕ) (i : ℕ) → a ≤ i → i < a + o.len → get_or (refill f r s path) i 0 ≡ f i
  value_placed f i h g =
      refilled_byte f r s path i (omega (arith, value_inside)) ∙ rw (passed_aside r s path i (value_passed i h g))

  -- nothing in that value is found
  pub value_not_found : (q : Found) → lookup r s path ≡ ok q → (i : ℕ) → a ≤ i → i < a + o.len → i < q.at
  value_not_found q e i h g = found_outside r s path q e i (value_passed i h g)

  -- whatever bytes v of that length stand there instead, the lookup is the same and shows the same value
  module _ (v : List ℕ) (size : length v ≡ o.len) where
    fits : a + length v ≤ length s
    fits = omega (arith, value_inside)

    same : (i : ℕ) → covered_by (aside r s path) i ≡ false → get_or (take a s ++ (v ++ drop (a + length v) s)) i 0 ≡ get_or s i 0
    same i c =
        outside a v s fits i (λ h g. true≢false (sym (passed_aside r s path i (value_passed i h (omega arith))) ∙ c))

    pub value_unseen : lookup r (take a s ++ (v ++ drop (a + o.len) s)) path ≡ lookup r s path
    unfolding over_at
    value_unseen = rw (← size) (aside_unseen r s path (over_at a v s) (length_over_at a v s fits) (λ i _. same i))

    pub value_shown : value_in (take a s ++ (v ++ drop (a + o.len) s)) (lookup r (take a s ++ (v ++ drop (a + o.len) s)) path)
        ≡ value_in s (lookup r s path)
    unfolding over_at
    value_shown = rw (← size) (aside_value r s path (over_at a v s) (length_over_at a v s fits) (λ i _. same i))

-- after the value found, and after the part in which a tag is refused, `refill` has the bytes of f
module _ (f : ℕ → ℕ) (r : Reading) (s path : List ℕ) (p : Found) (i : ℕ) (h : p.at + p.len ≤ i) (g : i < length s) where
  placed_after : last_entered r s path ≡ span_of p → get_or (refill f r s path) i 0 ≡ f i
  placed_after e = refilled_byte f r s path i g ∙ rw (after_aside r s path i (rw e h) g)

  pub after_found : lookup r s path ≡ ok p → get_or (refill f r s path) i 0 ≡ f i
  after_found e = placed_after (last_found r s path p e)

  pub after_refused : (front rest : List ℕ) (t : ℕ) (z : Halt) → path ≡ front ++ (t ∷ rest) → lookup r s front ≡ ok p
      → lookup r s (front ++ (t ∷ [])) ≡ refused z → get_or (refill f r s path) i 0 ≡ f i
  unfolding follow
  after_refused front rest t z parts e stopped =
      let one = sym stopped ∙ follow_append r s 0 (whole_record s) front (t ∷ []) in
      by_reply (seek r t p.at (part s (span_of p))) (λ q d. absurd (refused_not_ok z (found_by (p.matched + 1) q) (one ∙ rw (e, d))))
      (λ j d. placed_after (rw parts (last_refused r s front p e t j rest d)))
