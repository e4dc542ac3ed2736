use mathlib.Core.Path.{sym}
use mathlib.Core.List.{[], ◌∷◌}
use native.Mathlib.Omega.{arith}
use lib.Seq.{length-take-le}
use Rattle.basis.proofs.Over.{stored}
use Rattle.abi.proofs.AnswerLaws.{usable_le}
use Rattle.tlv_abi.proofs.Writing.{write_refused, count_has_place, object_written}
use Rattle.tlv_abi.proofs.write.gorvisclen_put_data_object.Goals as goal

pub returns-in-Err : goal.returns-in-Err
returns-in-Err c =
    rw c.number.ensures (write_refused _ _ _ _ _ _ c.usable_len-end.ensures _ _ c.put_data_object.ensures _ c.in-Err.ensures.reply)

pub returns-in-Ok : goal.returns-in-Ok
returns-in-Ok c =
    let p = c.put_data_object.ensures in
    object_written _ _ _ _ _ _ c.usable_len-end.ensures _ _ p _ _ c.in-Ok.ensures.reply
    (stored (_ ∷ []) _ (count_has_place _ _ _ _ c.args.out.now _ c.usable_len-end.ensures _ _ p _ c.in-Ok.ensures.reply))

pub slice_bounds-put_data_object-end-2 : goal.slice_bounds-put_data_object-end-2
slice_bounds-put_data_object-end-2 c = sym (length-take-le _ _ (usable_le _ _ 1 c.usable_len-end.ensures))

pub bounds-out-0 : goal.bounds-out-0
bounds-out-0 c =
    omega (arith, count_has_place _ _ _ _ c.args.out.now _ c.usable_len-end.ensures _ _ c.put_data_object.ensures _ c.in-Ok.ensures.reply)
