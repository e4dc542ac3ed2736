-- One reply and one content of the lent slices: any two that a promise allows are equal (rule 11.1).
use Prim.Native.Nat.{ℕ}
use mathlib.Core.Path.{◌≡◌, ◌∙⁻¹◌}
use mathlib.Core.List.{List}
use lib.ListN.{length}
use Rattle.basis.specs.Reply.{ok}
use Rattle.abi.proofs.OneReply.{One, one, OneCopy, one_copy}
use Rattle.response.specs.Response.{append_of}
use Rattle.response.specs.Words.{name_of}
use Rattle.response_abi.specs.Numbers.{response_reply, split_reply, data_reply, Appended, status_by, status_numbers, StatusIs, NameIs}

pub gorvisclen_response_split : (s : List ℕ) → One 3 (split_reply s)
gorvisclen_response_split s = one 3 (split_reply s)

pub gorvisclen_response_data : (s : List ℕ) → OneCopy (data_reply s)
gorvisclen_response_data s = one_copy (data_reply s)

pub gorvisclen_response_append : (s : List ℕ) (held : ℕ) (room out : List ℕ) (r q : ℕ) (a b x y : List ℕ) → Appended s held room out r a x
    → Appended s held room out q b y → (r ≡ q) × (a ≡ b) × (x ≡ y)
gorvisclen_response_append s held room out r q a b x y h g =
    let t = one 3 (response_reply (append_of s held (length room))) out r q x y h.says g.says in (t.0, h.bytes ∙⁻¹ g.bytes, t.1)

pub gorvisclen_status : (a b : ℕ) (out : List ℕ) (r q : ℕ) (x y : List ℕ) → StatusIs a b out r x → StatusIs a b out q y → (r ≡ q) × (x ≡ y)
gorvisclen_status a b = one 3 (ok (status_numbers (status_by a b)))

pub gorvisclen_status_name : (a b : ℕ) (to out : List ℕ) (r q : ℕ) (u v x y : List ℕ) → NameIs a b to out r u x → NameIs a b to out q v y
    → (r ≡ q) × (u ≡ v) × (x ≡ y)
gorvisclen_status_name a b = one_copy (ok (name_of (status_by a b)))
