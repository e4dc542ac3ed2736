use native.Mathlib.Omega.{arith}
use Rattle.tlv_write.proofs.Objects.{written}
use Rattle.tlv_write.proofs.put_data_object.Goals as goal

pub returns : goal.returns
returns c =
    written _ _ _ _ (omega arith) c.tag_size.ensures.0 c.len_size.ensures.0 _ (omega arith) c.write.ensures
