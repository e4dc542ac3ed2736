-- One reply and one content of the lent slices (rule 11.1): any two that a promise allows are equal.
use Prim.Native.Nat.{ℕ}
use mathlib.Core.Path.{◌≡◌, ◌∙⁻¹◌}
use mathlib.Core.List.{List}
use lib.ListN.{length}
use Rattle.basis.specs.Reply.{Reply, ok, refused}
use Rattle.class.specs.declared.Reading.TheVariants.{Crate}
use Rattle.command.specs.Command.{parse, data_in}
use Rattle.command.specs.declared.CommandView.{CommandView}
use Rattle.abi.specs.Answers.{if_long_enough}
use Rattle.abi.proofs.OneReply.{one_copy}
use Rattle.abi.specs.Readings.{class_reading_by_number}
use Rattle.command_owned_abi.specs.Copies.{data_by, DataCopied, OwnedCopied, ExtendsBy, Extended}

pub gorvisclen_command_data : (n : ℕ) (s to out : List ℕ) (r q : ℕ) (a b x y : List ℕ) → DataCopied n s to out r a x
    → DataCopied n s to out q b y → (r ≡ q) × (a ≡ b) × (x ≡ y)
gorvisclen_command_data n s = one_copy (data_by n s)

pub gorvisclen_command_owned : (n : ℕ) (s room out : List ℕ) (r q : ℕ) (a b x y : List ℕ)
    → OwnedCopied (class_reading_by_number n) s room out r a x → OwnedCopied (class_reading_by_number n) s room out q b y → (r ≡ q) × (a ≡ b) × (x ≡ y)
gorvisclen_command_owned n s room out r q a b x y h g = (h.reply ∙⁻¹ g.reply, h.bytes ∙⁻¹ g.bytes, h.row ∙⁻¹ g.row)

-- an extension, by the reply of the parser
extends_by : (v : Reply CommandView) (n : ℕ) (d room out : List ℕ) (r q : ℕ) (a b x y : List ℕ) → ExtendsBy v n d room out r a x
    → ExtendsBy v n d room out q b y → (r ≡ q) × (a ≡ b) × (x ≡ y)
extends_by (ok v) n d room out r q a b x y h g = (h.reply ∙⁻¹ g.reply, h.bytes ∙⁻¹ g.bytes, h.row ∙⁻¹ g.row)
extends_by (refused k) n d room out r q a b x y h g = (h.0 ∙⁻¹ g.0, h.1 ∙⁻¹ g.1, h.2 ∙⁻¹ g.2)

pub gorvisclen_command_extend : (n : ℕ) (s room out : List ℕ) (r q : ℕ) (a b x y : List ℕ) → Extended n s room out r a x
    → Extended n s room out q b y → (r ≡ q) × (a ≡ b) × (x ≡ y)
gorvisclen_command_extend n s room out r q a b x y h g =
    extends_by (if_long_enough 7 (length out) (parse Crate s)) n (data_in s (parse Crate s)) room out r q a b x y h g
