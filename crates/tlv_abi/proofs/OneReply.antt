-- One reply and one content of the lent slices: any two that a promise allows are equal (rule 11.1).
use Prim.Native.Nat.{ℕ}
use mathlib.Core.Path.{◌≡◌, ◌∙⁻¹◌}
use mathlib.Core.List.{List}
use Rattle.abi.proofs.OneReply.{One, one, OneRow, one_row, copy_and_tell}
use Rattle.basis.specs.Reply.{Told, ok, refused}
use Rattle.abi.specs.Lookups.{lookup_row}
use Rattle.abi.specs.Readings.{tlv_reading_by_number}
use Rattle.tlv.specs.Lookup.{part, Found, Halt, span_of, lookup}
use Rattle.tlv_abi.specs.Written.{ObjectWritten}
use Rattle.tlv_abi.specs.Numbers.{take_tag_reply, take_len_reply, take_data_object_row, CopiedOrTold, ValueCopied}

pub gorvisclen_take_tag : (n : ℕ) (s : List ℕ) → One 2 (take_tag_reply n s)
gorvisclen_take_tag n s = one 2 (take_tag_reply n s)

pub gorvisclen_take_len : (n : ℕ) (s : List ℕ) → One 2 (take_len_reply n s)
gorvisclen_take_len n s = one 2 (take_len_reply n s)

pub gorvisclen_take_data_object : (n : ℕ) (s : List ℕ) (at : ℕ) → OneRow (take_data_object_row n s at)
gorvisclen_take_data_object n s at = one_row (take_data_object_row n s at)

one_value : (s : List ℕ) (x : Told Halt Found) (to out : List ℕ) (r r' : ℕ) (a b u v : List ℕ)
    → CopiedOrTold s x to out r a u → CopiedOrTold s x to out r' b v → (r ≡ r') × (a ≡ b) × (u ≡ v)
one_value s (ok f) to out r r' a b u v p q = copy_and_tell (lookup_row (ok f)).numbers (part s (span_of f)) to out r r' a b u v p q
one_value s (refused h) to out r r' a b u v p q =
    let told = one_row (lookup_row (refused h)) out r r' u v p.0 q.0 in
    (told.0, p.1 ∙⁻¹ q.1, told.1)

pub gorvisclen_value : (n : ℕ) (s path to out : List ℕ) (r r' : ℕ) (a b u v : List ℕ)
    → ValueCopied n s path to out r a u → ValueCopied n s path to out r' b v → (r ≡ r') × (a ≡ b) × (u ≡ v)
gorvisclen_value n s path = one_value s (lookup (tlv_reading_by_number n) s path)

pub gorvisclen_put_data_object : (t v : List ℕ) (at : ℕ) (buffer out : List ℕ) (r q : ℕ) (a b x y : List ℕ)
    → ObjectWritten t v at buffer out r a x → ObjectWritten t v at buffer out q b y → (r ≡ q) × (a ≡ b) × (x ≡ y)
gorvisclen_put_data_object t v at buffer out r q a b x y h g = (h.reply ∙⁻¹ g.reply, h.bytes ∙⁻¹ g.bytes, h.row ∙⁻¹ g.row)
