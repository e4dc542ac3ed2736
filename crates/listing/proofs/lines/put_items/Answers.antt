use Prim.Native.Nat.{◌+◌, ◌-◌}
use native.Mathlib.Omega.{arith}
use Rattle.listing.proofs.Writing.{to_write_as, to_write_room, to_write_next, to_write_none}
use Rattle.listing.proofs.Sections.{size_next}
use Rattle.listing.proofs.LineLaws.{items_text_none, items_text_next}
use Rattle.listing.proofs.lines.put_items.Goals as goal

pub slice_bounds-put_item-end : goal.slice_bounds-put_item-end
slice_bounds-put_item-end c =
    let l = c.loop-k in
    let a = c.args in
    omega (arith, size_next a.input.now l.at c.pair_at.result c.pair_at.ensures.0 (a.count + 1 - l.k) (a.count - l.k) (omega arith))

pub put_item-place-requires : goal.put_item-place-requires
put_item-place-requires c =
    let l = c.loop-k in
    let a = c.args in
    let n = c.pair_at in
    to_write_room _ _
    (to_write_as (items_text_next a.section l.k a.input.now l.at (a.count + 1 - l.k) n.result n.ensures.0 (a.count - l.k) (omega arith)) l.invariant.0)

pub loop-k-preserved : goal.loop-k-preserved
loop-k-preserved c =
    let l = c.loop-k in
    let a = c.args in
    let n = c.pair_at in
    let left = a.count + 1 - l.k in
    let rest = a.count + 1 - (l.k + 1) in
    let size = size_next a.input.now l.at n.result n.ensures.0 left rest (omega arith) in
    let next = to_write_as (items_text_next a.section l.k a.input.now l.at left n.result n.ensures.0 rest (omega arith)) l.invariant.0 in
    (to_write_next next c.put_item-place.ensures, omega arith)

pub returns : goal.returns
returns c =
    let l = c.loop-k in
    let a = c.args in
    to_write_none (to_write_as (items_text_none a.section l.k a.input.now l.at (a.count + 1 - l.k) (omega arith)) l.invariant.0)

pub returns-2 : goal.returns-2
returns-2 c =
    let l = c.loop-k in
    let a = c.args in
    let n = c.pair_at in
    let left = a.count + 1 - l.k in
    let next = to_write_as (items_text_next a.section l.k a.input.now l.at left n.result n.ensures.0 0 (omega arith)) l.invariant.0 in
    to_write_none
    (to_write_as (items_text_none a.section (l.k + 1) a.input.now (l.at + 2 + n.result) 0 (omega arith))
    (to_write_next next c.put_item-place.ensures))
