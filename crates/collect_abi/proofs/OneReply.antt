-- One reply and one content of the lent slices: any two that a promise allows are equal.
use Prim.Native.Nat.{ℕ}
use mathlib.Core.Path.{◌≡◌, ◌∙⁻¹◌}
use mathlib.Core.List.{List}
use lib.ListN.{length, take}
use Rattle.basis.specs.Reply.{Reply}
use Rattle.collect.specs.declared.Collection.{Collection}
use Rattle.abi.proofs.OneReply.{One, one, copy_bytes, one_serialized}
use Rattle.abi.specs.Builders.{builder_by_numbers}
use Rattle.collect_abi.specs.Numbers.{start_reply, stepped_by, ResponseTaken, data_by_kind, SentWritten, CollectedData}

pub gorvisclen_collect_start : (c i p q e m : ℕ) (d : List ℕ) → One 8 (start_reply c i p q e m d)
gorvisclen_collect_start c i p q e m d = one 8 (start_reply c i p q e m d)

pub gorvisclen_collect_step : (x : Reply Collection) (s room out : List ℕ) (r r' : ℕ) (a a' o o' : List ℕ)
    → ResponseTaken x s room out r a o → ResponseTaken x s room out r' a' o' → (r ≡ r') × (a ≡ a') × (o ≡ o')
gorvisclen_collect_step x s room out r r' a a' o o' h g =
    let t = one 12 (stepped_by x s (length room)) out r r' o o' h.says g.says in (t.0, h.bytes ∙⁻¹ g.bytes, t.1)

pub gorvisclen_collect_write : (k c i p q e m : ℕ) (d : List ℕ) (at : ℕ) (buffer out : List ℕ) (r r' : ℕ) (a a' o o' : List ℕ)
    → SentWritten k c i p q e m d at buffer out r a o → SentWritten k c i p q e m d at buffer out r' a' o'
    → (r ≡ r') × (a ≡ a') × (o ≡ o')
gorvisclen_collect_write k c i p q e m d = one_serialized (builder_by_numbers c i p q e m (data_by_kind k d)) (data_by_kind k d)

pub gorvisclen_collected : (n : ℕ) (room to out : List ℕ) (r r' : ℕ) (a a' o o' : List ℕ) → CollectedData n room to out r a o
    → CollectedData n room to out r' a' o' → (r ≡ r') × (a ≡ a') × (o ≡ o')
gorvisclen_collected n room = copy_bytes (take n room)
