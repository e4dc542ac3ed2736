-- In which bytes exactly the two readings of an object differ, places included (rule 16.7).
use Prim.Native.Nat.{ℕ, min, ◌+◌, ◌-◌, ◌*◌, ◌%◌, ◌≤◌}
use mathlib.Core.Path.{◌≡◌, refl, sym, ap, ◌∙◌}
use mathlib.Core.Logic.{◌⊎◌, inl, inr}
use mathlib.Core.Bool.{true, false, cond, true≢false, false≢true}
use mathlib.Core.List.{List}
use native.Mathlib.Nat.{add-sub_cancel_left}
use native.Mathlib.Omega.{arith}
use lib.Dec.{ltb, leb, eqb}
use lib.ListN.{length, get_or, drop}
use borrow.Author.Tests.{ltb-false, leb-true, eqb-true}
use Rattle.basis.specs.Differ.{Differ}
use Rattle.basis.specs.Reply.{Told, ok, refused}
use Rattle.basis.proofs.Reply.{All, by_reply, all_is, apart, refused_not_ok}
use Rattle.tlv.specs.Padding.{zeros, padding}
use Rattle.tlv.specs.Tag.{Tag, tag_of}
use Rattle.tlv.specs.Object.{Object, object_of, Item, Stop, placed, next_of, moved, object_at}
use Rattle.tlv.specs.declared.Reading.{Reading}
use Rattle.tlv.specs.declared.Reading.TheVariants.{Crate, Standard}
use Rattle.tlv.proofs.Zeros.{crate_padding, standard_padding}
use Rattle.tlv.proofs.Tags.{by_tag}
use Rattle.tlv.proofs.Within.{next_after}
use Rattle.tlv_laws.specs.Readings.{tag_differs, is_read, object_differs}
use Rattle.tlv_laws.proofs.TruthValues.{by_test, neither, not_true_false}
use Rattle.tlv_laws.proofs.Padded.{place_of, next_place}
use Rattle.tlv_laws.proofs.Boundary.{front_refused, TagOf, object_tag}
use Rattle.tlv_laws.proofs.Readings.{tags_alike, differing_tags, no_padding, starts_zero_lem}

-- a tag on which they differ has at least two bytes
differs_long : (s : List ℕ) → tag_differs s ≡ true → (2 ≤ length s) × (get_or s 0 0 % 32 ≡ 31)
unfolding tag_differs
differs_long s e =
    by_test (ltb (length s) 2) (λ h. absurd (false≢true (rw h at e))) (λ h.
    by_test (eqb (get_or s 0 0 % 32) 31)
    (λ f. (ltb-false (length s) 2 h, eqb-true (get_or s 0 0 % 32) 31 f))
    (λ f. absurd (false≢true (rw (h, f) at e))))

-- if both readings read a tag there, their numbers differ
module _ (s : List ℕ) (d : tag_differs s ≡ true) where
  abbrev TwoOrThree : Tag → Type 0
  TwoOrThree t =
      ((t.size ≡ 2) × (t.number ≡ get_or s 0 0 * 256 + get_or s 1 0))
      ⊎ ((t.size ≡ 3) × (t.number ≡ (get_or s 0 0 * 256 + get_or s 1 0) * 256 + get_or s 2 0))

  two_or_three : (r : Reading) → All TwoOrThree (tag_of r s)
  two_or_three r =
      by_tag r s (All TwoOrThree) (λ _. tt) (λ _. tt) (λ _ n. absurd (n (differs_long s d).1)) (λ _ _ _. inl (refl, refl))
      (λ _ _ _ _ _. inr (refl, refl))

  same_tag : (t u : Tag) → tag_of Crate s ≡ ok t → tag_of Standard s ≡ ok u → t.number ≡ u.number → t.size ≡ u.size → ⊥
  same_tag t u e f number size =
      differing_tags s d (e ∙ ap ok (λ j. record { number = number j; size = size j }) ∙ sym f)

  numbers_differ : (t u : Tag) → tag_of Crate s ≡ ok t → tag_of Standard s ≡ ok u → t.number ≡ u.number → ⊥
  numbers_differ t u e f number =
      let long = (differs_long s d).1 in
      let x = all_is TwoOrThree (tag_of Crate s) t (two_or_three Crate) e in
      let y = all_is TwoOrThree (tag_of Standard s) u (two_or_three Standard) f in
      elim x [
        | inl p ↦
            elim y [
              | inl q ↦ same_tag t u e f number (p.0 ∙ sym q.0)
              | inr q ↦ omega (arith, number, p.1, q.1, long)
            ]
        | inr p ↦
            elim y [
              | inl q ↦ omega (arith, number, p.1, q.1, long)
              | inr q ↦ same_tag t u e f number (p.0 ∙ sym q.0)
            ]
      ]

  -- so the readings do not read one object there
  objects_apart : (o q : Object) → object_of Crate s ≡ ok o → object_of Standard s ≡ ok q → o.tag ≡ q.tag → ⊥
  unfolding TagOf
  objects_apart o q e f same =
      let t = all_is (TagOf Crate s) (object_of Crate s) o (object_tag Crate s) e in
      let u = all_is (TagOf Standard s) (object_of Standard s) q (object_tag Standard s) f in
      numbers_differ t.0 u.0 t.1.0 u.1.0 (t.1.1 ∙ same ∙ sym u.1.1)

  -- the tag of a reply
  abbrev tag_in : Told Stop Item → ℕ
  tag_in (ok i) = i.tag
  tag_in (refused e) = 0

  read_apart : cond (is_read Crate s) true (is_read Standard s) ≡ true → placed 0 (object_of Crate s) ≡ placed 0 (object_of Standard s) → ⊥
  read_apart h e =
      by_reply (object_of Crate s)
      (λ o f. by_reply (object_of Standard s)
      (λ q g. objects_apart o q f g (ap tag_in (sym (ap (placed 0) f) ∙ e ∙ ap (placed 0) g)))
      (λ k g. refused_not_ok _ _ (sym (ap (placed 0) g) ∙ sym e ∙ ap (placed 0) f)))
      (λ k f. by_reply (object_of Standard s)
      (λ q g. refused_not_ok _ _ (sym (ap (placed 0) f) ∙ e ∙ ap (placed 0) g))
      (λ j g. false≢true (rw (f, g) at h)))

-- bytes that start with no object, and with some byte, are refused with 12
unread : (r : Reading) (s : List ℕ) → 1 ≤ length s → is_read r s ≡ false → object_of r s ≡ refused 12
unread r s h e =
    by_reply (object_of r s) (λ o f. absurd (true≢false (rw f at e))) (λ k f.
    elim (front_refused r s k f) [ inl g ↦ absurd (omega (arith, h, g.1)) | inr g ↦ f ∙ ap refused g.0 ])

front_alike : (s : List ℕ) → tag_differs s ≡ false → object_of Crate s ≡ object_of Standard s
unfolding object_of
front_alike s e = rw (tags_alike s e)

-- the next object where no padding stands
unpadded : (r : Reading) (s : List ℕ) → padding r s ≡ 0 → next_of r s ≡ placed 0 (object_of r s)
unpadded r s e = next_after r s 0 (sym e)

pub objects_alike : (s : List ℕ) → object_differs s ≡ false → next_of Crate s ≡ next_of Standard s
unfolding object_differs
objects_alike s d =
    let n = neither (leb 1 (zeros s)) _ (rw (starts_zero_lem s) at d) in
    let same : object_of Crate s ≡ object_of Standard s =
    by_test (tag_differs s)
    (λ g.
    let some : 1 ≤ length s = omega (arith, differs_long s g) in
    let m = neither (is_read Crate s) (is_read Standard s) (rw g at n.1) in
    unread Crate s some m.0 ∙ sym (unread Standard s some m.1))
    (front_alike s) in
    unpadded Crate s (crate_padding s) ∙ ap (placed 0) same ∙ sym (unpadded Standard s (no_padding s n.0))

pub differing_objects : (s : List ℕ) → object_differs s ≡ true → next_of Crate s ≡ next_of Standard s → ⊥
unfolding object_differs
differing_objects s d e =
    by_test (leb 1 (zeros s))
    (λ z. omega (arith, leb-true 1 (zeros s) z, standard_padding s, next_place Standard s, next_place Crate s, crate_padding s, ap place_of e))
    (λ z.
    let front = sym (unpadded Crate s (crate_padding s)) ∙ e ∙ unpadded Standard s (no_padding s z) in
    by_test (tag_differs s) (λ g. read_apart s g (rw (starts_zero_lem s, z, g) at d) front) (λ g. false≢true (rw (starts_zero_lem s, z, g) at d)))

pub objects_differ : (s : List ℕ) → Differ (object_differs s ≡ true) (next_of Crate s) (next_of Standard s)
objects_differ s = record {
  differ = differing_objects s;
  equal = λ h. objects_alike s (not_true_false (object_differs s) h);
}

-- the same of an object at a place of a record: replies that are moved by the same number of bytes can be moved back
abbrev moved_back : ℕ → Told Stop Item → Told Stop Item
moved_back a (ok i) = ok (record { place = i.place - a; tag = i.tag; at = i.at - a; len = i.len })
moved_back a (refused e) = refused (record { number = e.number; place = e.place - a })

there_and_back : (a : ℕ) (x : Told Stop Item) → moved_back a (moved a x) ≡ x
there_and_back a (ok i) = rw (add-sub_cancel_left, add-sub_cancel_left)
there_and_back a (refused e) = rw add-sub_cancel_left

pub objects_at_differ : (s : List ℕ) (a : ℕ) → Differ (object_differs (drop a s) ≡ true) (object_at Crate s a) (object_at Standard s a)
objects_at_differ s a =
    let m = min a (length s) in
    record {
      differ = λ d e. differing_objects (drop a s) d (apart (moved m) (moved_back m) (there_and_back m) _ _ e);
      equal = λ h. ap (moved m) (objects_alike (drop a s) (not_true_false (object_differs (drop a s)) h));
    }
