-- One reply and one content of the lent slices: any two that a promise allows are equal (rule 11.1).
use Prim.Native.Nat.{ℕ}
use mathlib.Core.Path.{◌≡◌, ◌∙⁻¹◌}
use mathlib.Core.List.{List}
use Rattle.abi.proofs.OneReply.{One, one, OneCopy, one_copy}
use Rattle.calibration.specs.Profile.{Fields}
use Rattle.calibration.specs.declared.date.Date.{Date}
use Rattle.calibration_abi.specs.Numbers.{read_reply, serial_reply, lapsed_reply, shown_reply, shown_from_reply, ProfilePut}

pub gorvisclen_read_profile : (s : List ℕ) → One 5 (read_reply s)
gorvisclen_read_profile s = one 5 (read_reply s)

pub gorvisclen_profile_serial : (s : List ℕ) → OneCopy (serial_reply s)
gorvisclen_profile_serial s = one_copy (serial_reply s)

pub gorvisclen_has_lapsed : (s : List ℕ) (on : Date) → One 1 (lapsed_reply s on)
gorvisclen_has_lapsed s on = one 1 (lapsed_reply s on)

pub gorvisclen_due_shown : (c d : List ℕ) → OneCopy (shown_reply c d)
gorvisclen_due_shown c d = one_copy (shown_reply c d)

pub gorvisclen_due_shown_from : (c d : List ℕ) → One 2 (shown_from_reply c d)
gorvisclen_due_shown_from c d = one 2 (shown_from_reply c d)

pub gorvisclen_put_profile : (f : Fields) (at : ℕ) (buffer out : List ℕ) (r q : ℕ) (a b x y : List ℕ)
    → ProfilePut f at buffer out r a x → ProfilePut f at buffer out q b y → (r ≡ q) × (a ≡ b) × (x ≡ y)
gorvisclen_put_profile f at buffer out r q a b x y h g = (h.reply ∙⁻¹ g.reply, h.bytes ∙⁻¹ g.bytes, h.row ∙⁻¹ g.row)
