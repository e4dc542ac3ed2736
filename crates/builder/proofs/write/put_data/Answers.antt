use native.Mathlib.Omega.{arith}
use mathlib.Core.Path.{sym}
use lib.ListN.{length}
use Rattle.basis.proofs.Over.{copied_next}
use Rattle.builder.specs.Sizes.{field as length_field}
use Rattle.builder.proofs.Lengths.{length_field_lem}
use Rattle.builder.proofs.write.put_data.Goals as goal

pub returns : goal.returns
returns c =
    let d = c.args.«data».now in
    let lc = length_field_lem c.args.lc (length d) c.requires.0 in
    copied_next _ _ _ _ (length_field c.args.lc (length d)) d _ c.put_field.ensures (sym lc) (omega (arith, lc, c.requires.1)) c.copy_from_slice.ensures.after (omega arith)
