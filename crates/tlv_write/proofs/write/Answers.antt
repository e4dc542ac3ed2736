use native.Mathlib.Omega.{arith}
use lib.ListN.{length-append}
use Rattle.basis.proofs.Over.{lent, next}
use Rattle.tlv_write.specs.Written.{object_bytes}
use Rattle.tlv_write.proofs.write.Goals as goal

pub returns : goal.returns
unfolding object_bytes
returns c =
    let p = c.tag_size.ensures.0 in
    let q = c.len_size.ensures.0 in
    next _ _ _ _ _ _ _
    (next _ _ _ _ _ _ _
    (lent _ _ _ _ (omega (arith, c.requires.1)) c.put_tag.ensures)
    (omega arith) (omega (arith, c.requires.1)) c.put_len.ensures)
    (simp length-append (omega arith)) (omega (arith, c.requires.1)) c.put_value.ensures
