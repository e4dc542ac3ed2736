use mathlib.Core.Path.{sym, ap, ◌∙◌}
use mathlib.Core.List.{List, [], ◌∷◌, ◌++◌}
use Prim.Native.Nat.{ℕ, ◌+◌}
use native.Mathlib.Omega.{arith}
use lib.ListN.{length, length-append}
use Rattle.basis.specs.Number.{be}
use Rattle.basis.specs.Over.{over_at}
use Rattle.basis.proofs.Number.{length_be}
use Rattle.basis.proofs.Over.{lent, next, copied_at, over_at_twice}
use Rattle.calibration.specs.Date.{date_bytes}
use Rattle.calibration.specs.Profile.{Fields, fields, object}
use Rattle.calibration.proofs.Written.{be_bytes, date_size, record_parts, value_known}
use Rattle.calibration.proofs.put.write.Goals as goal

pub returns : goal.returns
unfolding object
returns c =
    let serial = c.args.serial.now in
    let n = length serial in
    let at = c.args.at in
    let buffer = c.args.buffer.now in
    let front : List ℕ = 0xE1 ∷ (n + 14) ∷ 0xC1 ∷ n ∷ [] in
    let f : Fields = fields serial c.args.due c.args.capacity in
    let due = object 0xC2 (date_bytes c.args.due) in
    let capacity = object 0xC3 (be 4 c.args.capacity) in
    let fronted = lent buffer at front _ (omega (arith, c.requires.2)) c.put_front.ensures in
    let copied =
    copied_at (at + 4) _ serial _ _ c.copy_from_slice.ensures.after (omega arith)
    ∙ ap (over_at (at + 4) serial) fronted ∙ over_at_twice at front serial buffer (omega (arith, c.requires.2)) in
    let all =
    next at (at + 4 + n + 6) buffer _ ((front ++ serial) ++ due) capacity _
    (next at (at + 4 + n) buffer _ (front ++ serial) due _ copied
    (simp length-append (omega arith)) (omega (arith, c.requires.2, date_size f))
    (value_known 0xC2 _ _ _ _ c.date_bytes.ensures c.put_object.ensures))
    (simp length-append (omega (arith, date_size f))) (omega (arith, c.requires.2, length_be 4 c.args.capacity))
    (value_known 0xC3 _ _ _ _ (c.to_be_bytes.ensures ∙ be_bytes c.args.capacity) c.put_object-2.ensures) in
    all ∙ sym (ap (λ (b : List ℕ). over_at at b buffer) (record_parts f))
