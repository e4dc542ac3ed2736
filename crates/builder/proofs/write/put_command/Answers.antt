use native.Mathlib.Omega.{arith}
use mathlib.Core.Path.{refl}
use lib.ListN.{length, length-append}
use Rattle.basis.proofs.Over.{between_over}
use Rattle.builder.specs.Sizes.{field}
use Rattle.builder.proofs.Lengths.{length_field_lem}
use Rattle.builder.proofs.write.put_command.Goals as goal

pub returns : goal.returns
returns c =
    let at-data = c in
    let at-le = at-data in
    let at-header = at-le in
    let s = at-header in
    let d = s.args.«data».now in
    let lc = length_field_lem s.args.sizes.lc (length d) s.requires.lc_few in
    let le = length_field_lem s.args.sizes.le s.args.sizes.written s.requires.le_few in
    let data-end = length-append (field s.args.sizes.lc (length d)) d in
    let room = s.requires.room in
    between_over _ _ _ _ _ _ _ _ _ _ at-header.put_header.ensures refl (omega arith) (omega arith) at-le.put_field.ensures refl
    at-data.put_data.ensures
