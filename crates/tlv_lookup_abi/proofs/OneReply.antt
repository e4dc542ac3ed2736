-- One reply and one content of the lent slice: any two that the promise allows are equal (rule 11.1).
use Prim.Native.Nat.{ℕ}
use mathlib.Core.List.{List}
use Rattle.abi.proofs.OneReply.{OneRow, one_row}
use Rattle.tlv_lookup_abi.specs.Place.{get_data_object_row}

pub gorvisclen_get_data_object : (n : ℕ) (s path : List ℕ) → OneRow (get_data_object_row n s path)
gorvisclen_get_data_object n s path = one_row (get_data_object_row n s path)
