use Prim.Native.Nat.{ℕ, ◌+◌, ◌≤◌}
use mathlib.Core.Path.{◌≡◌, sym, ap, ◌∙◌}
use native.Mathlib.Nat.{add_assoc, add-zero, min-eq_left, min-eq_right}
use native.Mathlib.Omega.{arith}
use mathlib.Core.List.{List}
use lib.ListN.{length, drop, length-drop, drop_of_length-le}
use lib.Seq.{drop-drop}
use Rattle.basis.specs.Reply.{Reply, ok}
use Rattle.basis.proofs.Over.{rest_is}
use Rattle.tlv.specs.Padding.{padding}
use Rattle.tlv.specs.Object.{Object, object_of, placed, next_of, moved, object_at}
use Rattle.tlv.specs.declared.Reading.{Reading}
use Rattle.tlv.proofs.Zeros.{padding_within}
use Rattle.tlv.proofs.Within.{next_after, next_inside}
use Rattle.tlv.proofs.Walk.{next_nothing}
use Rattle.tlv.proofs.object.take_data_object.Goals as goal

-- n bytes of padding stand at place a: they end in the record, and the next object is read after them
module _ (r : Reading) (s : List ℕ) (a n : ℕ) (h : a ≤ length s) (padded : n ≡ padding r (drop a s)) where
  ends : a + n ≤ length s
  ends = omega (arith, padded, padding_within r (drop a s), length-drop a s, h)

  module _ (x : Reply Object) (read : x ≡ object_of r (drop (a + n) s)) where
    next : next_of r (drop a s) ≡ placed n x
    next = next_after r (drop a s) n padded ∙ ap (placed n) (ap (object_of r) (drop-drop n a s) ∙ sym read)

    there : moved a (placed n x) ≡ object_at r s a
    there = rw (min-eq_left {n = a} {m = length s} h) (ap (moved a) (sym next))

  module _ (o : Object) (read : ok o ≡ object_of r (drop (a + n) s)) where
    inside : a + n + o.at + o.len ≤ length s
    inside = omega (arith, next_inside r (drop a s) _ (next (ok o) read), length-drop a s, h)

    object_there : ok (record { place = a + n; tag = o.tag; at = a + n + o.at; len = o.len }) ≡ object_at r s a
    object_there = rw (add_assoc a n o.at) (there (ok o) read)

-- past the end no byte is left
pub returns-then-end-at : goal.returns-then-end-at
returns-then-end-at c =
    let a = c.args in
    let past : length a.«record».now ≤ a.at = omega (arith, c.if-end-at.true) in
    rw (
      drop_of_length-le a.«record».now {i = a.at} past,
      min-eq_right {n = length a.«record».now} {m = a.at} past,
      next_nothing a.reading,
      add-zero,
    )

pub overflow_add-place : goal.overflow_add-place
overflow_add-place c =
    omega (arith, ends _ c.args.«record».now c.args.at _ (omega (arith, c.if-end-at.false)) (rw rest_is at c.padding.ensures))

pub slice_bounds-front_object-count : goal.slice_bounds-front_object-count
slice_bounds-front_object-count c =
    omega (arith, ends _ c.args.«record».now c.args.at _ (omega (arith, c.if-end-at.false)) (rw rest_is at c.padding.ensures))

pub slice_bounds-front_object-start : goal.slice_bounds-front_object-start
slice_bounds-front_object-start c =
    omega (arith, ends _ c.args.«record».now c.args.at _ (omega (arith, c.if-end-at.false)) (rw rest_is at c.padding.ensures))

-- the value of an object stands in the record
pub overflow_add-result : goal.overflow_add-result
overflow_add-result c =
    omega (arith, inside _ c.args.«record».now c.args.at _ (omega (arith, c.if-end-at.false)) (rw rest_is at c.padding.ensures) _ (rw rest_is at c.in-Ok.ensures))

pub returns-in-Err : goal.returns-in-Err
returns-in-Err c =
    there _ c.args.«record».now c.args.at _ (omega (arith, c.if-end-at.false)) (rw rest_is at c.padding.ensures) _ (rw rest_is at c.in-Err.ensures)

pub returns-in-Ok : goal.returns-in-Ok
returns-in-Ok c =
    object_there _ c.args.«record».now c.args.at _ (omega (arith, c.if-end-at.false)) (rw rest_is at c.padding.ensures) _ (rw rest_is at c.in-Ok.ensures)
