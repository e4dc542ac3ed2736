use Rattle.std.proofs.Common.{ℕ, ◌≡◌, ◌∙◌, ap, [], ◌∷◌, arith}
use Rattle.tlv.specs.Object.{Item}
use Rattle.tlv.specs.Stop.{stop_number}
use Rattle.listing.specs.Text.{line, object_lines}
use Rattle.listing.proofs.Writing.{to_write_first, to_write_as, to_write_room, to_write_next, to_write_none, puts_as}
use Rattle.listing.proofs.LineLaws.{lines_first, rest_end, rest_12, rest_object, object_bounds}
use Rattle.listing.proofs.lines.put_objects.Goals as goal

pub loop-object-init : goal.loop-object-init
loop-object-init c =
    let a = c.args in
    let whole = to_write_first (object_lines a.k a.«record».now) a.start a.out.now c.requires in
    (to_write_as (lines_first a.k a.«record».now) whole, omega arith, omega arith)

pub object_line-place-requires : goal.object_line-place-requires
object_line-place-requires c =
    let l = c.loop-object in
    let a = c.args in
    let o = c.in-Ok.object in
    let i : Item = record { place = o.place; tag = o.tag; at = o.at; len = o.len } in
    to_write_room _ _ (to_write_as (rest_object a.k l.j l.at a.«record».now l.invariant.1 i c.in-Ok.ensures) l.invariant.0)

pub overflow_add-at : goal.overflow_add-at
overflow_add-at c =
    let l = c.loop-object in
    let o = c.in-Ok.object in
    let i : Item = record { place = o.place; tag = o.tag; at = o.at; len = o.len } in
    omega (arith, object_bounds c.args.k l.j l.at c.args.«record».now l.invariant.1 i c.in-Ok.ensures)

pub loop-object-smaller : goal.loop-object-smaller
loop-object-smaller c =
    let l = c.loop-object in
    let o = c.in-Ok.object in
    let i : Item = record { place = o.place; tag = o.tag; at = o.at; len = o.len } in
    omega (arith, object_bounds c.args.k l.j l.at c.args.«record».now l.invariant.1 i c.in-Ok.ensures)

pub loop-object-preserved : goal.loop-object-preserved
loop-object-preserved c =
    let l = c.loop-object in
    let a = c.args in
    let o = c.in-Ok.object in
    let i : Item = record { place = o.place; tag = o.tag; at = o.at; len = o.len } in
    let bounds = object_bounds a.k l.j l.at a.«record».now l.invariant.1 i c.in-Ok.ensures in
    let next = to_write_as (rest_object a.k l.j l.at a.«record».now l.invariant.1 i c.in-Ok.ensures) l.invariant.0 in
    (to_write_next next c.object_line-place.ensures, bounds.1, omega arith)

pub returns-in-End : goal.returns-in-End
returns-in-End c =
    let l = c.loop-object in
    let a = c.args in
    let e = rw c.in-End.is at c.in-Err.ensures in
    to_write_none (to_write_as (rest_end a.k l.j l.at a.«record».now l.invariant.1 c.in-Err.halt.place e) l.invariant.0)

pub fill-requires : goal.fill-requires
fill-requires c =
    let l = c.loop-object in
    let a = c.args in
    let e = rw c.in-Unreadable.is at c.in-Err.ensures in
    let n : c.from-number.result ≡ 12 = c.from-number.ensures ∙ c.number.ensures ∙ ap stop_number c.in-Unreadable.is in
    rw n (to_write_as (rest_12 a.k l.j l.at a.«record».now l.invariant.1 c.in-Err.halt.place e) l.invariant.0).room

pub returns-in-Unreadable : goal.returns-in-Unreadable
returns-in-Unreadable c =
    let l = c.loop-object in
    let a = c.args in
    let e = rw c.in-Unreadable.is at c.in-Err.ensures in
    let n : c.from-number.result ≡ 12 = c.from-number.ensures ∙ c.number.ensures ∙ ap stop_number c.in-Unreadable.is in
    (to_write_as (rest_12 a.k l.j l.at a.«record».now l.invariant.1 c.in-Err.halt.place e) l.invariant.0).rest _ _
    (puts_as (ap (λ (x : ℕ). line "%.% refused % at %\n" (a.k ∷ l.j ∷ x ∷ c.in-Err.halt.place ∷ [])) n) c.fill.ensures)
