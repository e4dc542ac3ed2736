-- One reply and one content of the lent slices: any two that a promise allows are equal (rule 11.1).
use Prim.Native.Nat.{ℕ}
use mathlib.Core.Path.{◌≡◌, ◌∙⁻¹◌}
use mathlib.Core.List.{List}
use Rattle.basis.specs.Reply.{Told, Reply, ok, refused}
use Rattle.abi.specs.Lookups.{lookup_row}
use Rattle.abi.proofs.OneReply.{One, one, one_row}
use Rattle.tlv.specs.Lookup.{Found, Halt}
use Rattle.tlv_index.specs.Index.{crate_kind}
use Rattle.tlv_index.specs.Lookup.{indexed}
use Rattle.tlv_index_abi.specs.Told.{IndexBuilt, check_index_reply, ToldOrRefused, IndexedTold}

pub gorvisclen_build_index : (s : List ℕ) (at : ℕ) (buffer out : List ℕ) (r q : ℕ) (a b x y : List ℕ)
    → IndexBuilt s at buffer out r a x → IndexBuilt s at buffer out q b y → (r ≡ q) × (a ≡ b) × (x ≡ y)
gorvisclen_build_index s at buffer out r q a b x y h g = (h.reply ∙⁻¹ g.reply, h.bytes ∙⁻¹ g.bytes, h.row ∙⁻¹ g.row)

pub gorvisclen_check_index : (f : List ℕ) → One 1 (check_index_reply f)
gorvisclen_check_index f = one 1 (check_index_reply f)

one_told : (x : Reply (Told Halt Found)) (out : List ℕ) (r q : ℕ) (a b : List ℕ)
    → ToldOrRefused x out r a → ToldOrRefused x out q b → (r ≡ q) × (a ≡ b)
one_told (ok x) out r q a b h g = one_row (lookup_row x) out r q a b h g
one_told (refused k) out r q a b h g = (h.0 ∙⁻¹ g.0, h.1 ∙⁻¹ g.1)

pub gorvisclen_get_indexed : (f s path out : List ℕ) (r q : ℕ) (a b : List ℕ) → IndexedTold f s path out r a → IndexedTold f s path out q b
    → (r ≡ q) × (a ≡ b)
gorvisclen_get_indexed f s path = one_told (indexed crate_kind f s path)
