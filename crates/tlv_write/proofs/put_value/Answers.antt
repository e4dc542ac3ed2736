use mathlib.Core.Path.{refl}
use Rattle.basis.proofs.Over.{copied_front}
use Rattle.tlv_write.proofs.put_value.Goals as goal

pub returns : goal.returns
returns c = copied_front _ _ _ _ c.copy_from_slice.ensures.after refl
