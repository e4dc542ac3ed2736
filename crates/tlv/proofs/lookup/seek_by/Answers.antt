use native.Mathlib.Omega.{arith}
use mathlib.Core.Path.{sym, ◌∙◌}
use Rattle.tlv.proofs.Search.{ends_there, lies, found_there, goes_on}
use Rattle.tlv.proofs.lookup.seek_by.Goals as goal

pub returns-in-Err : goal.returns-in-Err
returns-in-Err g c =
    rw (sym c.reading_of-reading.ensures) (ends_there _ _ _ _ _ c.padding.ensures _ _ c.in-Err.ensures ∙ sym c.loop-stop.invariant.0)

pub returns-then-object-tag : goal.returns-then-object-tag
returns-then-object-tag g c =
    rw (sym c.reading_of-reading.ensures)
    (found_there _ _ _ _ _ c.padding.ensures _ c.in-Ok.ensures _ c.if-object-tag.true ∙ sym c.loop-stop.invariant.0)

pub loop-stop-preserved : goal.loop-stop-preserved
loop-stop-preserved g c = (
  c.loop-stop.invariant.0 ∙ goes_on _ _ _ _ _ c.padding.ensures _ c.in-Ok.ensures _ c.if-object-tag.false,
  omega (arith, lies _ _ _ _ _ c.padding.ensures _ c.in-Ok.ensures c.loop-stop.invariant.1 c.requires.1),
)
