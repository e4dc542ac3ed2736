use native.Mathlib.Omega.{arith}
use mathlib.Core.Path.{sym}
use lib.ListN.{length}
use lib.Seq.{length-take-le}
use Rattle.basis.specs.Over.{over}
use Rattle.basis.proofs.Over.{copied_front}
use Rattle.aid.proofs.Making.{passing_valid, made_from_name, name_refused}
use Rattle.aid.proofs.Aid.try_new_truncatable.Goals as goal

pub slice_bounds-bytes-end : goal.slice_bounds-bytes-end
slice_bounds-bytes-end c = (passing_valid _ _ (sym c.in-Ok.ensures)).most

pub slice_bounds-copy_from_slice-end : goal.slice_bounds-copy_from_slice-end
slice_bounds-copy_from_slice-end c = sym (length-take-le _ _ (passing_valid _ _ (sym c.in-Ok.ensures)).most)

pub copy_from_slice-requires : goal.copy_from_slice-requires
copy_from_slice-requires c = length-take-le _ _ (passing_valid _ _ (sym c.in-Ok.ensures)).most

pub returns-in-Err : goal.returns-in-Err
unfolding over
returns-in-Err c = name_refused _ _ _ (sym c.in-Err.ensures)

pub returns-in-Ok : goal.returns-in-Ok
returns-in-Ok c =
    let aid = c.args.aid.now in
    made_from_name _ _ (sym c.in-Ok.ensures) _ _ _
    (copied_front (length aid) aid _ _ c.copy_from_slice.ensures.after (omega arith)) (omega arith) (omega arith)
