-- One reply and one content of the lent slices (rule 11.1): any two that a promise allows are equal.
use Prim.Native.Nat.{ℕ}
use mathlib.Core.Path.{◌≡◌, ◌∙⁻¹◌}
use mathlib.Core.List.{List}
use Rattle.basis.specs.Reply.{Reply}
use Rattle.abi.proofs.OneReply.{One, one}
use Rattle.splitter.specs.declared.pieces.Pieces.{Pieces}
use Rattle.splitter_abi.specs.Numbers.{should_split_reply, NewNonExtendedIs, PieceWritten}

pub gorvisclen_should_split : (c i p q e m : ℕ) (d : List ℕ) (n : ℕ) → One 6 (should_split_reply c i p q e m d n)
gorvisclen_should_split c i p q e m d n = one 6 (should_split_reply c i p q e m d n)

pub gorvisclen_new_non_extended : (c i p q : ℕ) (d : List ℕ) (e m r s : ℕ) → NewNonExtendedIs c i p q d e m r
    → NewNonExtendedIs c i p q d e m s → r ≡ s
gorvisclen_new_non_extended c i p q d e m r s g h = g ∙⁻¹ h

pub gorvisclen_write_next : (x : Reply Pieces) (d : List ℕ) (at : ℕ) (buffer out : List ℕ) (r r' : ℕ) (a a' o o' : List ℕ)
    → PieceWritten x d at buffer out r a o → PieceWritten x d at buffer out r' a' o' → (r ≡ r') × (a ≡ a') × (o ≡ o')
gorvisclen_write_next x d at buffer out r r' a a' o o' h g =
    (h.reply ∙⁻¹ g.reply, h.bytes ∙⁻¹ g.bytes, h.row ∙⁻¹ g.row)
