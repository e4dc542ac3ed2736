-- Where the lookups of the two readings differ, places included: they are alike up to the first bytes whose next object
-- the readings read differently, and each goes on from there (rules 6.5 and 16.7).
use Prim.Native.Nat.{ℕ, ◌+◌}
use mathlib.Core.Path.{◌≡◌, refl, sym, ap, ◌∙◌}
use mathlib.Core.Bool.{Bool, true, false, cond, false≢true}
use mathlib.Core.List.{List, [], ◌∷◌, ◌++◌, append_assoc}
use native.Mathlib.Nat.{add-zero}
use lib.Dec.{eqb}
use lib.ListN.{length, take, drop, take-append-drop}
use lib.Seq.{drop-drop}
use borrow.Author.Tests.{eqb-false}
use Rattle.basis.specs.Reply.{ok, refused, then}
use Rattle.basis.proofs.Reply.{by_reply}
use Rattle.tlv.specs.Object.{Item, Stop, next_of, size_of}
use Rattle.tlv.specs.Walk.{walk}
use Rattle.tlv.specs.Lookup.{Span, part, whole_record, seek, Found, found_by, span_of, searched, follow, lookup}
use Rattle.tlv.specs.declared.Reading.{Reading}
use Rattle.tlv.specs.declared.Reading.TheVariants.{Crate, Standard}
use Rattle.tlv.proofs.Within.{crate_item, crate_stop}
use Rattle.tlv.proofs.Walk.{walk_refused, walk_met, by_objects, seek_refused, seek_is}
use Rattle.tlv_laws.specs.Readings.{object_differs, meets_of, meets_at, meets_from, meets, FirstMet, from_there}
use Rattle.tlv_laws.specs.Plain.{plain}
use Rattle.tlv_laws.specs.Value.{of_value}
use Rattle.tlv_laws.proofs.TruthValues.{by_test, same_cond, neither}
use Rattle.tlv_laws.proofs.AfterMatch.{follow_append}
use Rattle.tlv_laws.proofs.Boundary.{walked_at, walk_on, walked_none, walked_append, walked_next}
use Rattle.tlv_laws.proofs.ObjectReadings.{objects_alike, differing_objects}

-- whether such bytes are met at one level, walked from place a of the bytes l on: where no object is read, and where
-- one is
abbrev Met : ℕ → List ℕ → ℕ → List ℕ → Bool
Met t l a s = meets_of l t (walk Crate a s).items (walk Crate a s).stop

met_stop : (t : ℕ) (l : List ℕ) (a : ℕ) (s : List ℕ) (k : Stop) → next_of Crate s ≡ refused k → drop a l ≡ s → Met t l a s ≡ object_differs s
unfolding meets_of
met_stop t l a s k e d = rw (walk_refused Crate a s k e, (crate_stop s k e).0, add-zero, d)

met_item : (t : ℕ) (l : List ℕ) (a : ℕ) (s : List ℕ) (o : Item) → next_of Crate s ≡ ok o → drop a l ≡ s
    → Met t l a s ≡ cond (object_differs s) true (cond (eqb o.tag t) false (Met t l (a + size_of o) (drop (size_of o) s)))
unfolding meets_of
met_item t l a s o e d = rw (walk_met Crate a s o e, (crate_item s o e).0, add-zero, d)

module _ (t : ℕ) (l : List ℕ) where
  onward : (a : ℕ) (s : List ℕ) (k : ℕ) → drop a l ≡ s → drop (a + k) l ≡ drop k s
  onward a s k d = sym (drop-drop k a l) ∙ ap (drop k) d

  -- if none are met, the lookups of both readings agree
  abbrev Alike : ℕ → List ℕ → Type 0
  Alike a s = (b : ℕ) → drop a l ≡ s → Met t l a s ≡ false → seek Crate t b s ≡ seek Standard t b s

  level_alike : (a : ℕ) (s : List ℕ) → Alike a s
  level_alike =
      by_objects Crate Alike
      (λ a s k e b d m.
      let same = objects_alike s (sym (met_stop t l a s k e d) ∙ m) in
      seek_refused Crate t b s k e ∙ sym (seek_refused Standard t b s k (sym same ∙ e)))
      (λ a s o e w deeper b d m.
      let n = neither (object_differs s) _ (sym (met_item t l a s o e d) ∙ m) in
      let same = objects_alike s n.0 in
      rw (seek_is Crate t b s o e, seek_is Standard t b s o (sym same ∙ e))
      (same_cond (eqb o.tag t) _ _ _ _ (λ _. refl) (λ h.
      deeper (b + size_of o) (onward a s (size_of o) d) (rw h at n.1))))

  -- none are met if none stand after whole objects without the tag (bytes in which the tag is refused with 11)
  abbrev None : ℕ → List ℕ → Type 0
  None a s =
      drop a l ≡ s → ((x y : List ℕ) → s ≡ x ++ y → plain (lookup Crate x (t ∷ [])) ≡ refused 11 → object_differs y ≡ false) → Met t l a s ≡ false

  -- if some are met: the bytes before the first of them are whole objects without the tag, in both readings
  record Divided (s : List ℕ) : Type 0 where
    x : List ℕ
    y : List ℕ
    parts : s ≡ x ++ y
    walked : (r : Reading) → plain (lookup r x (t ∷ [])) ≡ refused 11
    differs : object_differs y ≡ true

  at_once : (s : List ℕ) → object_differs s ≡ true → Divided s
  at_once s d = record { x = []; y = s; parts = refl; walked = λ r. walked_none r t; differs = d }

  in_each : (s : List ℕ) (o : Item) → next_of Crate s ≡ ok o → object_differs s ≡ false → (r : Reading) → next_of r s ≡ ok o
  in_each s o e n Crate = e
  in_each s o e n Standard = sym (objects_alike s n) ∙ e

  level_divided : (a : ℕ) (s : List ℕ) → drop a l ≡ s → Met t l a s ≡ true → Divided s
  level_divided =
      by_objects Crate (λ a s. drop a l ≡ s → Met t l a s ≡ true → Divided s)
      (λ a s k e d m. at_once s (sym (met_stop t l a s k e d) ∙ m))
      (λ a s o e w deeper d m.
      let k = size_of o in
      let met = sym (met_item t l a s o e d) ∙ m in
      by_test (object_differs s) (at_once s) (λ n.
      by_test (eqb o.tag t) (λ g. absurd (false≢true (rw (n, g) at met))) (λ g.
      let v = deeper (onward a s k d) (rw (n, g) at met) in
      record {
        x = take k s ++ v.x;
        y = v.y;
        parts = sym (take-append-drop k s) ∙ ap (λ (u : List ℕ). take k s ++ u) v.parts ∙ sym (append_assoc (take k s) v.x v.y);
        walked = λ r. walked_append r t (take k s) v.x
            (walked_next r t [] s o (walked_none r t) (in_each s o e n r) (eqb-false o.tag t g)) (v.walked r);
        differs = v.differs;
      })))

level_none : (t : ℕ) (l : List ℕ) (a : ℕ) (s : List ℕ) → None t l a s
level_none t l =
    by_objects Crate (None t l)
    (λ a s k e d h. met_stop t l a s k e d ∙ h [] s refl (walked_none Crate t))
    (λ a s o e w deeper d h.
    let k = size_of o in
    rw (met_item t l a s o e d, h [] s refl (walked_none Crate t))
    (by_test (eqb o.tag t) (λ g. rw g) (λ g.
    rw g (deeper (onward t l a s k d) (λ x y q z.
    h (take k s ++ x) y (sym (take-append-drop k s) ∙ rw (q, append_assoc))
    (walked_append Crate t (take k s) x (walked_next Crate t [] s o (walked_none Crate t) e (eqb-false o.tag t g)) z))))))

follow_alike : (s : List ℕ) (m : ℕ) (p : Span) (path : List ℕ) → meets_from s p path ≡ false
    → follow Crate s m p path ≡ follow Standard s m p path
unfolding meets_from meets_at follow
follow_alike s m p [] e = refl
follow_alike s m p (t ∷ path) e =
    let x = seek Crate t p.at (part s p) in
    let n = neither (meets_at t (part s p)) (of_value x false (λ q. meets_from s q path)) e in
    rw (← level_alike t (part s p) 0 (part s p) p.at refl n.0)
    (by_reply x (λ q h. rw h (follow_alike s (m + 1) q path (rw h at n.1))) (λ k h. rw h))

pub lookups_alike : (s path : List ℕ) → meets s path ≡ false → lookup Crate s path ≡ lookup Standard s path
lookups_alike s path = follow_alike s 0 (whole_record s) path

path_none : (s : List ℕ) (n : ℕ) (p : Span) (path : List ℕ)
    → ((front rest : List ℕ) (t : ℕ) (q : Found) (x y : List ℕ) → path ≡ front ++ (t ∷ rest) → follow Crate s n p front ≡ ok q
    → part s (span_of q) ≡ x ++ y → plain (lookup Crate x (t ∷ [])) ≡ refused 11 → object_differs y ≡ false)
    → meets_from s p path ≡ false
unfolding meets_from meets_at follow
path_none s n p [] h = refl
path_none s n p (t ∷ path) h =
    rw (level_none t (part s p) 0 (part s p) refl (λ x y. h [] path t (found_by n p) x y refl refl))
    (by_reply (seek Crate t p.at (part s p)) (λ q e.
    rw e (path_none s (n + 1) q path (λ front rest u m x y parts entered.
    h (t ∷ front) rest u m x y (ap (λ (l : List ℕ). t ∷ l) parts) (rw e entered))))
    (λ k e. rw e))

-- so none are met if none stand at a place to which the lookup comes, at any level of the path
pub meets_none : (s path : List ℕ)
    → ((front rest : List ℕ) (t : ℕ) (p : Found) (x y : List ℕ) → path ≡ front ++ (t ∷ rest) → lookup Crate s front ≡ ok p
    → part s (span_of p) ≡ x ++ y → plain (lookup Crate x (t ∷ [])) ≡ refused 11 → object_differs y ≡ false)
    → meets s path ≡ false
meets_none s path = path_none s 0 (whole_record s) path

-- a lookup goes on after whole objects without the tag, in either reading
lookup_on : (r : Reading) (s front rest : List ℕ) (t : ℕ) (p : Found) (x y : List ℕ) → lookup r s front ≡ ok p
    → part s (span_of p) ≡ x ++ y → plain (lookup r x (t ∷ [])) ≡ refused 11
    → lookup r s (front ++ (t ∷ rest))
    ≡ then (searched p.matched (seek r t (p.at + length x) y)) (λ q. follow r s (p.matched + 1) q rest)
unfolding follow
lookup_on r s front rest t p x y led parts walked =
    follow_append r s 0 (whole_record s) front (t ∷ rest)
    ∙ rw (led, parts, walk_on r t p.at x y (walked_at r t x walked p.at))

-- if some are met, both lookups come alike to the first of them
led_on : (s : List ℕ) (n : ℕ) (p q : Span) (t : ℕ) (front : List ℕ) (v : Found) → seek Crate t p.at (part s p) ≡ ok q
    → seek Standard t p.at (part s p) ≡ ok q → (r : Reading) → follow r s (n + 1) q front ≡ ok v → follow r s n p (t ∷ front) ≡ ok v
unfolding follow
led_on s n p q t front v e f Crate led = rw e led
led_on s n p q t front v e f Standard led = rw f led

path_met : (s : List ℕ) (n : ℕ) (p : Span) (path : List ℕ) → meets_from s p path ≡ true → FirstMet s n p path
unfolding meets_from meets_at follow
path_met s n p [] e = absurd (false≢true e)
path_met s n p (t ∷ path) e =
    let b = part s p in
    by_test (meets_at t b)
    (λ m.
    let v = level_divided t b 0 b refl m in
    record {
      front = [];
      t = t;
      rest = path;
      q = found_by n p;
      x = v.x;
      y = v.y;
      path_is = refl;
      led = λ r. refl;
      level = v.parts;
      walked = v.walked;
      differs = v.differs;
    })
    (λ m.
    let deeper = rw m at e in
    by_reply (seek Crate t p.at b) (λ q f.
    let same = level_alike t b 0 b p.at refl m in
    let v = path_met s (n + 1) q path (rw f at deeper) in
    record {
      front = t ∷ v.front;
      t = v.t;
      rest = v.rest;
      q = v.q;
      x = v.x;
      y = v.y;
      path_is = ap (λ (l : List ℕ). t ∷ l) v.path_is;
      led = λ r. led_on s n p q t v.front v.q f (sym same ∙ f) r (v.led r);
      level = v.level;
      walked = v.walked;
      differs = v.differs;
    })
    (λ k f. absurd (false≢true (rw f at deeper))))

pub lookups_met : (s path : List ℕ) → meets s path ≡ true → FirstMet s 0 (whole_record s) path
lookups_met s path = path_met s 0 (whole_record s) path

-- each lookup is then what its reading makes of the rest: so the two lookups are equal exactly if these replies are
pub met_lookup : (r : Reading) (s path : List ℕ) (m : FirstMet s 0 (whole_record s) path) → lookup r s path ≡ from_there r s path m
met_lookup r s path m =
    ap (λ (p : List ℕ). lookup r s p) m.path_is
    ∙ lookup_on r s m.front m.rest m.t m.q m.x m.y (m.led r) m.level (m.walked r)

-- and the next object there is not the same in both readings
pub met_apart : (s path : List ℕ) (m : FirstMet s 0 (whole_record s) path) → next_of Crate m.y ≡ next_of Standard m.y → ⊥
met_apart s path m = differing_objects m.y m.differs
