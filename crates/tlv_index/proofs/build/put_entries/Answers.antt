use Prim.Native.Nat.{ℕ, ◌+◌}
use native.Mathlib.Omega.{arith}
use mathlib.Core.Path.{◌≡◌, refl, sym, ap, ◌∙◌}
use mathlib.Core.List.{List, [], map}
use lib.ListN.{length}
use Rattle.tlv.specs.Walk.{Walk}
use Rattle.tlv.specs.declared.Reading.TheVariants.{Crate}
use Rattle.tlv_index.specs.Index.{entry_of}
use Rattle.tlv_index.specs.Steps.{entries_put}
use Rattle.tlv_index.proofs.Walks.{stops_here, item_ends, goes_on}
use Rattle.tlv_index.proofs.Sections.{no_entries, put_none, put_next}
use Rattle.tlv_index.proofs.build.put_entries.Invariants.{from, entries}
use Rattle.tlv_index.proofs.build.put_entries.Goals as goal

pub loop-i-init : goal.loop-i-init
loop-i-init c = record { within = omega arith; left = omega (arith, c.requires); put = refl }

pub loop-i-preserved : goal.loop-i-preserved
loop-i-preserved c =
    let s = c.args.«record».now in
    let l = c.loop-i in
    let n = c.args.n in
    let b = c.in-Ok.object.at + c.in-Ok.object.len in
    let inside = item_ends Crate s l.at l.invariant.within _ (sym c.in-Ok.ensures) in
    let on = goes_on Crate s l.at l.invariant.within _ (sym c.in-Ok.ensures) in
    record {
      within = inside.1;
      left = omega (arith, l.invariant.left, ap (λ (w : Walk). length w.items) on);
      put =
          ap (λ (f : List ℕ). entries_put 2 n (l.i + 1) (entries s b) f) c.put_entry.ensures
          ∙ sym (put_next 2 n l.i _ (entries s b) l.file)
          ∙ sym (ap (λ (w : Walk). entries_put 2 n l.i (map entry_of w.items) l.file) on)
          ∙ l.invariant.put;
    }

pub overflow_add-at : goal.overflow_add-at
overflow_add-at c =
    omega (arith, item_ends Crate c.args.«record».now c.loop-i.at c.loop-i.invariant.within _ (sym c.in-Ok.ensures))

pub returns-in_default : goal.returns-in_default
returns-in_default c =
    let s = c.args.«record».now in
    let l = c.loop-i in
    let none = stops_here Crate s l.at l.invariant.within _ (sym c.in_default.ensures) in
    absurd (omega (arith, l.invariant.left, ap (λ (w : Walk). length w.items) none))

pub returns : goal.returns
returns c =
    let s = c.args.«record».now in
    let l = c.loop-i in
    let none : entries s l.at ≡ [] = no_entries (from s l.at).items (omega (arith, l.invariant.left)) in
    sym (put_none 2 c.args.n l.i (entries s l.at) l.file none) ∙ l.invariant.put
