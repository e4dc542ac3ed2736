-- A search in the part of a record from place a to place e, by what is read there after k bytes of padding.
use Prim.Native.Nat.{ℕ, ◌+◌, ◌-◌, ◌≤◌}
use mathlib.Core.Path.{◌≡◌, sym, ap, ◌∙◌}
use mathlib.Core.List.{List}
use native.Mathlib.Omega.{arith}
use lib.ListN.{length, drop, length-take, length-drop}
use lib.Seq.{drop-drop}
use Rattle.basis.specs.Reply.{Reply, ok, refused}
use Rattle.basis.proofs.Over.{drop_take}
use Rattle.tlv.specs.Padding.{padding}
use Rattle.tlv.specs.Object.{Object, object_of, Item, item_at, placed, next_of, size_of}
use Rattle.tlv.specs.Lookup.{between, part, seek}
use Rattle.tlv.specs.declared.Reading.{Reading}
use Rattle.tlv.proofs.Zeros.{padding_within}
use Rattle.tlv.proofs.Within.{next_after, next_inside}
use Rattle.tlv.proofs.Walk.{seek_refused, seek_here, seek_next}

module _ (l : List ℕ) (a e : ℕ) where
  -- the part without its first n bytes, and its length
  rest_of : (n : ℕ) → drop n (part l (between a e)) ≡ part l (between (a + n) e)
  rest_of n =
      let left : e - a - n ≡ e - (a + n) = omega arith in
      drop_take n (e - a) (drop a l) ∙ rw (drop-drop n a l, left)

  part_length : e ≤ length l → length (part l (between a e)) ≡ e - a
  part_length h = omega (arith, length-take (e - a) (drop a l), length-drop a l)

  module _ (r : Reading) (k : ℕ) (h : k ≡ padding r (part l (between a e))) where
    -- padding ends within the part
    pub padding_ends : a ≤ e → e ≤ length l → a + k ≤ e
    padding_ends g f = omega (arith, h, padding_within r (part l (between a e)), part_length f, g)

    -- the next object is read after it
    next_from : (x : Reply Object) → x ≡ object_of r (part l (between (a + k) e)) → next_of r (part l (between a e)) ≡ placed k x
    next_from x read =
        next_after r (part l (between a e)) k h ∙ ap (λ (s : List ℕ). placed k (object_of r s)) (rest_of k) ∙ ap (placed k) (sym read)

    -- there is none: the search ends where the padding does
    pub ends_there : (t n : ℕ) → refused n ≡ object_of r (part l (between (a + k) e))
        → refused (record { number = n; place = a + k }) ≡ seek r t a (part l (between a e))
    ends_there t n read = sym (seek_refused r t a (part l (between a e)) _ (next_from (refused n) read))

    module _ (o : Object) (read : ok o ≡ object_of r (part l (between (a + k) e))) where
      abbrev item : Item
      item = item_at k o

      -- it lies within the part
      pub lies : a ≤ e → e ≤ length l → (1 ≤ o.at) × (a + k + o.at + o.len ≤ e)
      lies g f = omega (arith, next_inside r (part l (between a e)) item (next_from (ok o) read), part_length f, g)

      -- it has the tag; or the search goes on after it
      pub found_there : (t : ℕ) → o.tag ≡ t → ok (record { at = a + k + o.at; len = o.len }) ≡ seek r t a (part l (between a e))
      found_there t g =
          let place : a + k + o.at ≡ a + (k + o.at) = omega arith in
          ap (λ (m : ℕ). ok (record { at = m; len = o.len })) place
          ∙ sym (seek_here r t a (part l (between a e)) item (next_from (ok o) read) g)

      pub goes_on : (t : ℕ) → (o.tag ≡ t → ⊥)
          → seek r t a (part l (between a e)) ≡ seek r t (a + k + o.at + o.len) (part l (between (a + k + o.at + o.len) e))
      goes_on t g =
          let place : a + size_of item ≡ a + k + o.at + o.len = omega arith in
          seek_next r t a (part l (between a e)) item (next_from (ok o) read) g
          ∙ ap (λ (s : List ℕ). seek r t (a + size_of item) s) (rest_of (size_of item))
          ∙ ap (λ (m : ℕ). seek r t m (part l (between m e))) place
