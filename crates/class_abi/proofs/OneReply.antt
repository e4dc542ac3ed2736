-- One reply and one content of the lent slice: any two that a promise allows are equal (rule 11.1).
use Prim.Native.Nat.{ℕ}
use Rattle.abi.proofs.OneReply.{One, one}
use Rattle.class_abi.specs.Numbers.{class_reply, class_as_chained_reply, range_reply, constants}

pub gorvisclen_class : (cla : ℕ) → One 11 (class_reply cla)
gorvisclen_class cla = one 11 (class_reply cla)

pub gorvisclen_class_as_chained : (cla : ℕ) → One 11 (class_as_chained_reply cla)
gorvisclen_class_as_chained cla = one 11 (class_as_chained_reply cla)

pub gorvisclen_range : (cla : ℕ) → One 1 (range_reply cla)
gorvisclen_range cla = one 1 (range_reply cla)

pub gorvisclen_class_constants : One 3 constants
gorvisclen_class_constants = one 3 constants
