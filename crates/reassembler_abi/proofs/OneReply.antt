-- One reply and one content of the lent slices: any two that a promise allows are equal.
use Prim.Native.Nat.{ℕ}
use mathlib.Core.Path.{◌≡◌, ◌∙⁻¹◌}
use mathlib.Core.List.{List}
use lib.ListN.{take}
use Rattle.basis.specs.Reply.{Reply}
use Rattle.reassembler.specs.declared.Reassembler.{Reassembler}
use Rattle.abi.proofs.OneReply.{one, copy_bytes}
use Rattle.reassembler_abi.specs.Numbers.{joined_by, PieceJoined, ResetIs, JoinedData}

pub gorvisclen_join : (x : Reply Reassembler) (s room out : List ℕ) (r q : ℕ) (a b o p : List ℕ) → PieceJoined x s room out r a o
    → PieceJoined x s room out q b p → (r ≡ q) × (a ≡ b) × (o ≡ p)
gorvisclen_join x s room out r q a b o p h g =
    let t = one 14 (joined_by x room s) out r q o p h.says g.says in (t.0, h.bytes ∙⁻¹ g.bytes, t.1)

pub gorvisclen_reset : (o c i p q n r s : ℕ) → ResetIs o c i p q n r → ResetIs o c i p q n s → r ≡ s
gorvisclen_reset o c i p q n r s h g = h ∙⁻¹ g

pub gorvisclen_joined_data : (n : ℕ) (room to out : List ℕ) (r q : ℕ) (a b x y : List ℕ) → JoinedData n room to out r a x
    → JoinedData n room to out q b y → (r ≡ q) × (a ≡ b) × (x ≡ y)
gorvisclen_joined_data n room = copy_bytes (take n room)
