-- One reply and one content of the lent slice: any two that a promise allows are equal (rule 11.1).
use Prim.Native.Nat.{ℕ}
use mathlib.Core.Path.{◌≡◌}
use mathlib.Core.List.{List}
use Rattle.abi.proofs.OneReply.{one_row}
use Rattle.tlv_chunks.specs.Call.{take_of, close_of}
use Rattle.tlv_chunks_abi.specs.Numbers.{walk_by_numbers, row_of, ChunkTold, CloseTold}

pub gorvisclen_take_chunk : (k t n : ℕ) (s out : List ℕ) (r q : ℕ) (a b : List ℕ) → ChunkTold k t n s out r a → ChunkTold k t n s out q b
    → (r ≡ q) × (a ≡ b)
gorvisclen_take_chunk k t n s = one_row (row_of (take_of (walk_by_numbers k t n) s))

pub gorvisclen_close_chunks : (k t n : ℕ) (out : List ℕ) (r q : ℕ) (a b : List ℕ) → CloseTold k t n out r a → CloseTold k t n out q b
    → (r ≡ q) × (a ≡ b)
gorvisclen_close_chunks k t n = one_row (row_of (close_of (walk_by_numbers k t n)))
