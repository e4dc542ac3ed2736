use native.Mathlib.Omega.{arith}
use mathlib.Core.Path.{◌≡◌, refl, sym, ap, ◌∙◌}
use lib.ListN.{length}
use Rattle.tlv.specs.Walk.{Walk}
use Rattle.tlv.specs.declared.Reading.TheVariants.{Crate}
use Rattle.tlv_index.proofs.Walks.{stops_here, item_ends, goes_on, counted_few, counted_many}
use Rattle.tlv_index.proofs.build.count_objects.Invariants.{from}
use Rattle.tlv_index.proofs.build.count_objects.Goals as goal

pub returns-in-Err : goal.returns-in-Err
returns-in-Err c =
    let s = c.args.«record».now in
    let l = c.loop-stop in
    let stop = stops_here Crate s l.at l.invariant.within _ (sym c.in-Err.ensures) in
    let all : length (from s 0).items ≡ l.objects = l.invariant.met ∙ rw stop (omega arith) in
    sym (counted_few (from s 0) l.objects _ all l.invariant.few (l.invariant.stops ∙ ap (λ (w : Walk). w.stop) stop))

pub returns-then-objects-eq255 : goal.returns-then-objects-eq255
returns-then-objects-eq255 c =
    let s = c.args.«record».now in
    let l = c.loop-stop in
    let next = ap (λ (w : Walk). length w.items) (goes_on Crate s l.at l.invariant.within _ (sym c.in-Ok.ensures)) in
    sym (counted_many (from s 0) (omega (arith, l.invariant.met, next)))

pub loop-stop-init : goal.loop-stop-init
loop-stop-init c = record { within = omega arith; few = omega arith; met = omega arith; stops = refl }

pub loop-stop-preserved : goal.loop-stop-preserved
loop-stop-preserved c =
    let s = c.args.«record».now in
    let l = c.loop-stop in
    let inside = item_ends Crate s l.at l.invariant.within _ (sym c.in-Ok.ensures) in
    let on = goes_on Crate s l.at l.invariant.within _ (sym c.in-Ok.ensures) in
    let next = ap (λ (w : Walk). length w.items) on in
    record {
      within = inside.1;
      few = omega (arith, l.invariant.few);
      met = omega (arith, l.invariant.met, next);
      stops = l.invariant.stops ∙ ap (λ (w : Walk). w.stop) on;
    }

pub overflow_add-at : goal.overflow_add-at
overflow_add-at c =
    omega (arith, item_ends Crate c.args.«record».now c.loop-stop.at c.loop-stop.invariant.within _ (sym c.in-Ok.ensures))

pub loop-stop-smaller : goal.loop-stop-smaller
loop-stop-smaller c =
    omega (arith, item_ends Crate c.args.«record».now c.loop-stop.at c.loop-stop.invariant.within _ (sym c.in-Ok.ensures))
