-- Padding in front of some bytes: they are read as without it, further on (rules 16.1 and 16.3).
use Prim.Native.Nat.{ℕ, ◌+◌, ◌-◌}
use mathlib.Core.Path.{◌≡◌, refl, sym, ap, ◌∙◌}
use mathlib.Core.List.{List, [], ◌∷◌, ◌++◌}
use native.Mathlib.Nat.{add_assoc, add-zero}
use native.Mathlib.Omega.{arith}
use lib.Dec.{eqb}
use lib.ListN.{length, drop, drop_of_length-le}
use lib.Seq.{drop-append-add}
use borrow.Author.Tests.{eqb-true, eqb-false}
use Rattle.basis.specs.Reply.{Told, Reply, ok, refused}
use Rattle.basis.proofs.Reply.{by_reply, refused_not_ok}
use Rattle.tlv.specs.Padding.{zeros, padding}
use Rattle.tlv.specs.Tag.{tag_of}
use Rattle.tlv.specs.Object.{Object, object_of, Item, Stop, placed, next_of, size_of, moved_item, moved_stop, moved}
use Rattle.tlv.specs.Walk.{walk}
use Rattle.tlv.specs.Lookup.{seek}
use Rattle.tlv.specs.declared.Reading.{Reading}
use Rattle.tlv.specs.declared.Reading.TheVariants.{Crate, Standard}
use Rattle.tlv.proofs.Zeros.{zero_first, other_first, padding_once}
use Rattle.tlv.proofs.Walk.{walk_refused, walk_met}
use Rattle.tlv_laws.proofs.TruthValues.{by_test}

-- bytes x that are padding, in front of other bytes
zeros_append : (x y : List ℕ) → zeros x ≡ length x → zeros (x ++ y) ≡ length x + zeros y
zeros_append [] y e = omega arith
zeros_append (b ∷ x) y e =
    by_test (eqb b 0)
    (λ f.
    let z = eqb-true b 0 f in
    let more = zeros_append x y (omega (arith, zero_first b x z, e)) in
    omega (arith, zero_first b (x ++ y) z, more))
    (λ f. absurd (omega (arith, other_first b x (eqb-false b 0 f), e)))

padding_append : (r : Reading) (x y : List ℕ) → padding r x ≡ length x → padding r (x ++ y) ≡ length x + padding r y
unfolding padding
padding_append Crate x y e = omega (arith, e)
padding_append Standard x y e = zeros_append x y e

-- what is read after n bytes of padding, k bytes further on
moved_placed : (k n : ℕ) (x : Reply Object) → moved k (placed n x) ≡ placed (k + n) x
moved_placed k n (ok o) = rw add_assoc
moved_placed k n (refused j) = refl

-- the next object is the one that is read where the padding ends
pub next_unpadded : (r : Reading) (s : List ℕ) → next_of r s ≡ moved (padding r s) (next_of r (drop (padding r s) s))
unfolding next_of
next_unpadded r s =
    let n = padding r s in
    rw (padding_once r s) (ap (λ (k : ℕ). placed k (object_of r (drop n s))) (sym (add-zero n)) ∙ sym (moved_placed n 0 (object_of r (drop n s))))

-- the place of an object or a stop: where the padding ends
abbrev pub place_of : Told Stop Item → ℕ
place_of (ok i) = i.place
place_of (refused e) = e.place

pub next_place : (r : Reading) (s : List ℕ) → place_of (next_of r s) ≡ padding r s
unfolding next_of
next_place r s = by_reply (object_of r (drop (padding r s) s)) (λ o e. rw e) (λ k e. rw e)

-- so they are read at their own place too
module _ (r : Reading) (s : List ℕ) where
  pub item_there : (i : Item) → next_of r s ≡ ok i
      → next_of r (drop i.place s) ≡ ok (record { place = 0; tag = i.tag; at = i.at - i.place; len = i.len })
  item_there i e =
      let n = padding r s in
      let place : i.place ≡ n = sym (ap place_of e) ∙ next_place r s in
      by_reply (next_of r (drop n s)) (λ j f.
      let same : moved_item n j ≡ i = cc (sym (next_unpadded r s) ∙ e, f) in
      let front : j.place ≡ 0 = sym (ap place_of f) ∙ next_place r (drop n s) ∙ padding_once r s in
      let tag = ap (λ (x : Item). x.tag) same in
      let at : j.at ≡ i.at - i.place = omega (arith, ap (λ (x : Item). x.at) same, place) in
      let len = ap (λ (x : Item). x.len) same in
      ap (λ (k : ℕ). next_of r (drop k s)) place ∙ f
      ∙ ap ok (λ q. record { place = front q; tag = tag q; at = at q; len = len q }))
      (λ k f. absurd (refused_not_ok _ i (ap (moved n) (sym f) ∙ sym (next_unpadded r s) ∙ e)))

  pub stop_there : (e : Stop) → next_of r s ≡ refused e
      → next_of r (drop e.place s) ≡ refused (record { number = e.number; place = 0 })
  stop_there e h =
      let n = padding r s in
      let place : e.place ≡ n = sym (ap place_of h) ∙ next_place r s in
      by_reply (next_of r (drop n s))
      (λ j f. absurd (refused_not_ok e _ (sym h ∙ next_unpadded r s ∙ ap (moved n) f)))
      (λ k f.
      let same : moved_stop n k ≡ e = cc (sym (next_unpadded r s) ∙ h, f) in
      let front : k.place ≡ 0 = sym (ap place_of f) ∙ next_place r (drop n s) ∙ padding_once r s in
      let number = ap (λ (x : Stop). x.number) same in
      ap (λ (k : ℕ). next_of r (drop k s)) place ∙ f ∙ ap refused (λ q. record { number = number q; place = front q }))

-- only padding: 11, at the end (rule 16.3)
module _ (r : Reading) (x : List ℕ) (only : padding r x ≡ length x) where
  pub next_only : next_of r x ≡ refused (record { number = 11; place = length x })
  unfolding next_of object_of tag_of
  next_only = rw (only, drop_of_length-le x {i = length x} (omega arith))

  -- padding in front of other bytes: the next object, the walk and the search
  pub next_padded : (y : List ℕ) → next_of r (x ++ y) ≡ moved (length x) (next_of r y)
  unfolding next_of
  next_padded y =
      let n = padding r y in
      rw (padding_append r x y only, drop-append-add x y n) (sym (moved_placed (length x) n (object_of r (drop n y))))

  pub walk_padded : (a : ℕ) (y : List ℕ) → walk r a (x ++ y) ≡ walk r (a + length x) y
  walk_padded a y =
      by_reply (next_of r y)
      (λ i e.
      let k = length x in
      let front : next_of r (x ++ y) ≡ ok (moved_item k i) = next_padded y ∙ ap (moved k) e in
      let size : size_of (moved_item k i) ≡ k + size_of i = omega arith in
      let rest : drop (size_of (moved_item k i)) (x ++ y) ≡ drop (size_of i) y = rw size (drop-append-add x y (size_of i)) in
      rw (walk_met r a (x ++ y) (moved_item k i) front, walk_met r (a + k) y i e, rest, size, add_assoc, add_assoc, add_assoc))
      (λ e f. rw (walk_refused r a (x ++ y) (moved_stop (length x) e) (next_padded y ∙ ap (moved (length x)) f), walk_refused r (a + length x) y e f, add_assoc))

  pub seek_padded : (t a : ℕ) (y : List ℕ) → seek r t a (x ++ y) ≡ seek r t (a + length x) y
  unfolding seek
  seek_padded t a y = rw (walk_padded a y)
