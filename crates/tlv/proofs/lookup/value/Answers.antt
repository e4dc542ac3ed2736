use native.Mathlib.Omega.{arith}
use mathlib.Core.Path.{sym}
use Rattle.tlv.proofs.Walk.{lookup_inside}
use Rattle.tlv.proofs.lookup.value.Goals as goal

pub overflow_add-end : goal.overflow_add-end
overflow_add-end c = omega (arith, lookup_inside _ _ _ _ (sym c.in-Ok.ensures))

pub slice_bounds-result-end-in-Ok : goal.slice_bounds-result-end-in-Ok
slice_bounds-result-end-in-Ok c = omega (arith, lookup_inside _ _ _ _ (sym c.in-Ok.ensures))
