-- A walk is the reading of a record object by object, and nothing else is (rules 6.11, 1.11 and 1.12).
use Prim.Native.Nat.{ℕ, ◌+◌, ◌-◌, ◌≤◌, ◌<◌}
use mathlib.Core.Path.{◌≡◌, refl, sym, ap, ◌∙◌}
use mathlib.Core.Logic.{◌⊎◌, inl, inr}
use mathlib.Core.List.{List, [], ◌∷◌}
use native.Mathlib.Nat.{add_assoc}
use native.Mathlib.Omega.{arith}
use lib.ListN.{length, drop, length-drop}
use lib.Seq.{drop-drop}
use Rattle.basis.specs.Reply.{refused}
use Rattle.basis.proofs.Reply.{by_reply, refused_not_ok}
use Rattle.tlv.specs.Object.{Item, Stop, next_of, size_of, moved_stop}
use Rattle.tlv.specs.Walk.{Walk, with_item, walk}
use Rattle.tlv.specs.declared.Reading.{Reading}
use Rattle.tlv.proofs.Walk.{walk_refused, walk_met, walk_stopped, walk_item, item_inside, by_objects}
use Rattle.tlv_laws.specs.Walked.{ReadOn}
use Rattle.tlv_laws.proofs.Padded.{stop_there}
use Rattle.tlv_laws.proofs.Boundary.{refused_where}

module _ (r : Reading) (l : List ℕ) where
  -- the walk of bytes s that stand in l from place a on
  pub read_on : (a : ℕ) (s : List ℕ) → drop a l ≡ s → ReadOn r l a (walk r a s).items (walk r a s).stop
  read_on =
      by_objects r (λ a s. drop a l ≡ s → ReadOn r l a (walk r a s).items (walk r a s).stop)
      (λ a s k e d. rw (walk_refused r a s k e, d, e)) (λ a s o e w deeper d.
      let afterLast = deeper (sym (drop-drop (size_of o) a l) ∙ ap (drop (size_of o)) d) in
      rw (walk_met r a s o e, d, e) (refl, rw add_assoc afterLast))

  pub walk_reads : (a : ℕ) → ReadOn r l a (walk r a (drop a l)).items (walk r a (drop a l)).stop
  walk_reads a = read_on a (drop a l) refl

  -- objects and a stop that are read in this way are those of the walk
  read_only : (items : List Item) (e : Stop) (a : ℕ) → ReadOn r l a items e → record { items = items; stop = e } ≡ walk r a (drop a l)
  read_only [] e a h = sym (walk_stopped r a (drop a l) e h)
  read_only (i ∷ rest) e a h =
      let inside = item_inside r a (drop a l) i h.0 in
      let end : a + (i.at + i.len - a) ≡ i.at + i.len = omega (arith, inside) in
      let afterLast : record { items = rest; stop = e } ≡ walk r (i.at + i.len) (drop (i.at + i.len - a) (drop a l)) =
      rw (drop-drop (i.at + i.len - a) a l, end) (read_only rest e (i.at + i.len) h.1) in
      ap (with_item i) afterLast ∙ sym (walk_item r a (drop a l) i h.0)

  -- where a reading stops, the object at that place is refused with that number
  pub read_stop : (items : List Item) (e : Stop) (a : ℕ) → ReadOn r l a items e
      → next_of r (drop e.place l) ≡ refused (record { number = e.number; place = 0 })
  read_stop [] e a h =
      by_reply (next_of r (drop a l)) (λ o f. absurd (refused_not_ok e _ (sym (rw f at h)))) (λ k f.
      let same : moved_stop a k ≡ e = cc (rw f at h) in
      let place = ap (λ (j : Stop). j.place) same in
      rw (← same, ← drop-drop k.place a l) (stop_there r (drop a l) k f))
  read_stop (i ∷ rest) e a h = read_stop rest e (i.at + i.len) h.1

  pub walk_only : (a : ℕ) (w : Walk) → ReadOn r l a w.items w.stop → w ≡ walk r a (drop a l)
  walk_only a w = read_only w.items w.stop a

-- a walk stops with 11 at the end of the bytes, or with 12 before it
abbrev Stops : ℕ → ℕ → Stop → Type 0
Stops a n e = ((e.number ≡ 11) × (e.place ≡ a + n)) ⊎ ((e.number ≡ 12) × (a ≤ e.place) × (e.place < a + n))

pub walk_stops : (r : Reading) (a : ℕ) (s : List ℕ) → Stops a (length s) (walk r a s).stop
walk_stops r =
    by_objects r (λ a s. Stops a (length s) (walk r a s).stop)
    (λ a s k e.
    rw (walk_refused r a s k e) (elim (refused_where r s k e) [
      | inl h ↦ inl (h.0, omega (arith, h.1))
      | inr h ↦ inr (h.0, omega arith, omega (arith, h.1))
    ]))
    (λ a s o e w deeper.
    rw (walk_met r a s o e) (elim deeper [
      | inl h ↦ inl (h.0, omega (arith, h.1, length-drop (size_of o) s))
      | inr h ↦ inr (h.0, omega (arith, h.1), omega (arith, h.2, length-drop (size_of o) s))
    ]))
