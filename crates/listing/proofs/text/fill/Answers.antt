use borrow.Author.Rules.{rules}
use mathlib.Core.Path.{◌≡◌, ap}
use lib.ListN.{get_or}
use Rattle.listing.specs.Text.{form_text, filled}
use Rattle.listing.proofs.Writing.{to_write_first, to_write_as, to_write_room, to_write_next, to_write_none, puts_as}
use Rattle.listing.proofs.Filling.{filled_next, filled_done}
use Rattle.listing.proofs.text.fill.Goals as goal

pub loop-c-init : goal.loop-c-init
loop-c-init c = to_write_first (filled c.args.form.now c.args.numbers.now) c.args.at c.args.out.now c.requires

pub put_form_text-place-requires : goal.put_form_text-place-requires
put_form_text-place-requires c =
    let l = c.loop-c in
    let t = c.args.form.now in
    let e : c.unwrap_or.result ≡ get_or l.left.now 0 0 = search rules in
    rw e (to_write_room (form_text (get_or t l.c-index 0) (get_or l.left.now 0 0)) _
    (to_write_as (filled_next t l.left.now l.c-index c.loop-c-test.true) l.invariant))

pub loop-c-preserved : goal.loop-c-preserved
loop-c-preserved c =
    let l = c.loop-c in
    let t = c.args.form.now in
    let e : c.unwrap_or.result ≡ get_or l.left.now 0 0 = search rules in
    rw c.numbers_after-left.ensures
    (to_write_next
    (to_write_as (filled_next t l.left.now l.c-index c.loop-c-test.true) l.invariant)
    (puts_as (ap (form_text (get_or t l.c-index 0)) e) c.put_form_text-place.ensures))

pub returns : goal.returns
returns c =
    let l = c.loop-c in
    to_write_none (to_write_as (filled_done c.args.form.now l.left.now l.c-index c.loop-c-test.false) l.invariant)
