-- One reply and one content of the lent slice: any two that a promise allows are equal (rule 11.1).
use Prim.Native.Nat.{ℕ}
use mathlib.Core.Path.{◌≡◌, ◌∙⁻¹◌}
use mathlib.Core.Bool.{Bool}
use mathlib.Core.List.{List, [], ◌∷◌}
use lib.ListN.{length}
use Rattle.basis.specs.Reply.{Told, Reply, ok, refused}
use Rattle.class.specs.declared.Reading as class
use Rattle.tlv.specs.Lookup.{Found, Halt}
use Rattle.tlv.specs.declared.Reading as tlv
use Rattle.command.specs.declared.owned.Command.{Command}
use Rattle.builder.specs.declared.ExpectedLen.{ExpectedLen}
use Rattle.builder.specs.declared.ExtendedLen.{ExtendedLen}
use Rattle.std.specs.Prelude.{Result}
use Rattle.basis.specs.declared.refusal.Refusal.{Refusal}
use Rattle.builder.specs.declared.CommandBuilder.{CommandBuilder}
use Rattle.builder.proofs.OneReply.{new}
use Rattle.abi.specs.Answers.{NumbersWritten, unless_refused, Row, row, RowTold, CopiedWith, BytesCopied, ReplyCopied, RefusalStatusIs, UsableLenIs, FlagIs}
use Rattle.abi.specs.Lookups.{lookup_row}
use Rattle.abi.specs.Readings.{ClassReadingByNumberIs, TlvReadingByNumberIs}
use Rattle.abi.specs.Builders.{expected_len_by_number, mode_by_number, builder_by_numbers, ExpectedLenByNumberIs, ModeByNumberIs, BuilderByNumbersIs}
use Rattle.abi.specs.Lengths.{ExpectedLenNumberIs}
use Rattle.abi.specs.Serialized.{Serialized}
use Rattle.abi.specs.Commands.{CommandNumbersIs, CommandOfLengthIs}

-- two answers that write the m numbers of one reply are equal
abbrev pub One : ℕ → Reply (List ℕ) → Type 0
One m x = (out : List ℕ) (r s : ℕ) (a b : List ℕ) → NumbersWritten m x out r a → NumbersWritten m x out s b → (r ≡ s) × (a ≡ b)

pub one : (m : ℕ) (x : Reply (List ℕ)) → One m x
one m x out r s a b p q = (p.reply ∙⁻¹ q.reply, p.row ∙⁻¹ q.row)

pub write_numbers : (numbers out : List ℕ) (r s : ℕ) (a b : List ℕ) → NumbersWritten (length numbers) (ok numbers) out r a
    → NumbersWritten (length numbers) (ok numbers) out s b → (r ≡ s) × (a ≡ b)
write_numbers numbers = one (length numbers) (ok numbers)

pub write_unless_refused : (k : ℕ) (numbers : List ℕ) → One (length numbers) (unless_refused k numbers)
write_unless_refused k numbers = one (length numbers) (unless_refused k numbers)

-- two answers that tell one row are equal
abbrev pub OneRow : Row → Type 0
OneRow x = (out : List ℕ) (r s : ℕ) (a b : List ℕ) → RowTold x out r a → RowTold x out s b → (r ≡ s) × (a ≡ b)

pub one_row : (x : Row) → OneRow x
one_row x out r s a b p q = (p.reply ∙⁻¹ q.reply, p.told ∙⁻¹ q.told)

pub tell_row : (k : ℕ) (numbers : List ℕ) → OneRow (row k numbers)
tell_row k numbers = one_row (row k numbers)

pub tell_lookup : (x : Told Halt Found) → OneRow (lookup_row x)
tell_lookup x = one_row (lookup_row x)

-- two answers that copy the same bytes and write the same numbers are equal
pub copy_and_tell : (vs d to out : List ℕ) (r s : ℕ) (a b u v : List ℕ) → CopiedWith vs d to out r a u → CopiedWith vs d to out s b v
    → (r ≡ s) × (a ≡ b) × (u ≡ v)
copy_and_tell vs d to out r s a b u v p q = (p.reply ∙⁻¹ q.reply, p.bytes ∙⁻¹ q.bytes, p.row ∙⁻¹ q.row)

-- two answers that copy the bytes of one reply are equal
abbrev pub OneCopy : Reply (List ℕ) → Type 0
OneCopy x = (to out : List ℕ) (r s : ℕ) (a b u v : List ℕ) → ReplyCopied x to out r a u → ReplyCopied x to out s b v
    → (r ≡ s) × (a ≡ b) × (u ≡ v)

pub one_copy : (x : Reply (List ℕ)) → OneCopy x
one_copy (ok d) to out r s a b u v p q = copy_and_tell (length d ∷ []) d to out r s a b u v p q
one_copy (refused k) to out r s a b u v p q = (p.0 ∙⁻¹ q.0, p.1 ∙⁻¹ q.1, p.2 ∙⁻¹ q.2)

pub copy_bytes : (d to out : List ℕ) (r s : ℕ) (a b u v : List ℕ) → BytesCopied d to out r a u → BytesCopied d to out s b v
    → (r ≡ s) × (a ≡ b) × (u ≡ v)
copy_bytes d = one_copy (ok d)

-- two answers that write the command of one builder are equal
pub one_serialized : (x : Reply CommandBuilder) (d : List ℕ) (at : ℕ) (buffer out : List ℕ) (r s : ℕ) (a b u v : List ℕ)
    → Serialized x d at buffer out r a u → Serialized x d at buffer out s b v → (r ≡ s) × (a ≡ b) × (u ≡ v)
one_serialized x d at buffer out r s a b u v p q = (p.reply ∙⁻¹ q.reply, p.bytes ∙⁻¹ q.bytes, p.row ∙⁻¹ q.row)

pub refusal_status : (k n m r s : ℕ) → RefusalStatusIs k n m r → RefusalStatusIs k n m s → r ≡ s
refusal_status k n m r s p q = p ∙⁻¹ q

pub usable_len : (n m k r s : ℕ) → UsableLenIs n m k r → UsableLenIs n m k s → r ≡ s
usable_len n m k r s p q = p ∙⁻¹ q

pub flag : (b : Bool) (r s : ℕ) → FlagIs b r → FlagIs b s → r ≡ s
flag b r s p q = p ∙⁻¹ q

pub class_reading_by_number : (n : ℕ) (r s : class.Reading) → ClassReadingByNumberIs n r → ClassReadingByNumberIs n s → r ≡ s
class_reading_by_number n r s p q = p ∙⁻¹ q

pub tlv_reading_by_number : (n : ℕ) (r s : tlv.Reading) → TlvReadingByNumberIs n r → TlvReadingByNumberIs n s → r ≡ s
tlv_reading_by_number n r s p q = p ∙⁻¹ q

pub expected_len_by_number_lem : (e : ℕ) (x y : ExpectedLen) → ExpectedLenByNumberIs e x → ExpectedLenByNumberIs e y → x ≡ y
expected_len_by_number_lem e x y g h = g ∙⁻¹ h

pub expected_len_number : (x : ExpectedLen) (m n : ℕ) → ExpectedLenNumberIs x m → ExpectedLenNumberIs x n → m ≡ n
expected_len_number x m n g h = g ∙⁻¹ h

pub mode_by_number_lem : (m : ℕ) (x y : ExtendedLen) → ModeByNumberIs m x → ModeByNumberIs m y → x ≡ y
mode_by_number_lem m x y g h = g ∙⁻¹ h

module _ (c i p q e m : ℕ) (d : List ℕ) where
  pub builder_by_numbers_lem : (x y : Result CommandBuilder Refusal) → BuilderByNumbersIs c i p q e m d x → BuilderByNumbersIs c i p q e m d y → x ≡ y
  unfolding builder_by_numbers
  builder_by_numbers_lem x y g h = new c i p q d (expected_len_by_number e) (mode_by_number m) x y g h

pub command_numbers : (c : Command) (a b : List ℕ) → CommandNumbersIs c a → CommandNumbersIs c b → a ≡ b
command_numbers c a b h g = h ∙⁻¹ g

pub command_of_length : (n : ℕ) (a b : Command) → CommandOfLengthIs n a → CommandOfLengthIs n b → a ≡ b
command_of_length n a b h g = h ∙⁻¹ g
