-- The bytes of a command, their number, and the buffer that they are written into. Rules 3.3, 3.9 and 11.9.
use Rattle.std.specs.Prelude.{ℕ, ◌+◌, ◌≡◌, Result, cond, List, [], ◌∷◌, ltb, leb, length}
use Rattle.basis.specs.Reply.{Reply, ok, refused}
use Rattle.basis.specs.Refusal.{as_reply}
use Rattle.basis.specs.Over.{over_at}
use Rattle.basis.specs.declared.refusal.Refusal.{Refusal}
use Rattle.builder.specs.Builder.{unless_long}
use Rattle.builder.specs.Cases.{Case, case_bytes, lc_bytes, le_bytes, case_for}
use Rattle.builder.specs.declared.ExpectedLen.{ExpectedLen}
use Rattle.builder.specs.declared.ExpectedLen.TheVariants.{Ne, Max}
use Rattle.builder.specs.declared.ExtendedLen.{ExtendedLen}
use Rattle.builder.specs.declared.ExtendedLen.TheVariants.{Unsupported, Supported, Forced}
use Rattle.builder.specs.declared.CommandBuilder.{CommandBuilder}

-- the expected length as a number: Max is 65,536, the most that two bytes show
abbrev pub le_number : ExpectedLen → ℕ
le_number (Ne n) = n
le_number Max = 65536

-- the expected length that is written: short only lowers it, and Max, to at most 256; other modes leave it (rule 3.3)
abbrev pub lowered_len : ExtendedLen → ExpectedLen → ExpectedLen
lowered_len Unsupported (Ne n) = cond (leb n 256) (Ne n) (Ne 256)
lowered_len Unsupported Max = Ne 256
lowered_len Supported e = e
lowered_len Forced e = e

-- a builder with that expected length (rule 4.5)
abbrev pub lowered_of : CommandBuilder → CommandBuilder
lowered_of b =
    record {
      class = b.class;
      instruction = b.instruction;
      p1 = b.p1;
      p2 = b.p2;
      le = lowered_len b.mode b.le;
      mode = b.mode;
    }

-- the Le that is written, as a number
unfoldable pub le_written : CommandBuilder → ℕ
le_written b = le_number (lowered_len b.mode b.le)

-- the case of a builder with n data bytes
unfoldable pub case_of : CommandBuilder → ℕ → Case
case_of b n = case_for b.mode n (le_written b)

-- how many bytes of it are Lc
unfoldable pub lc_len : CommandBuilder → ℕ → ℕ
lc_len b n = lc_bytes (case_of b n)

-- how many bytes of it are Le
unfoldable pub le_len : CommandBuilder → ℕ → ℕ
le_len b n = le_bytes (case_of b n)

-- the four header bytes
abbrev pub header : CommandBuilder → List ℕ
header b = b.class.cla ∷ b.instruction ∷ b.p1 ∷ b.p2 ∷ []

-- the command with the data d: the bytes of its case (rule 3.9)
unfoldable pub command_of : CommandBuilder → List ℕ → List ℕ
command_of b d = case_bytes (case_of b (length d)) (header b) d (le_written b)

-- its length for n data bytes: four plus the bytes of Lc, data and Le (rule 11.9)
unfoldable pub required_len : CommandBuilder → ℕ → ℕ
required_len b n = 4 + lc_len b n + n + le_len b n

-- how many bytes are written from a place of a buffer of m bytes: 13, then 16 if they do not fit (rules 1.16 and 1.22)
unfoldable pub serialize_of : CommandBuilder → List ℕ → ℕ → ℕ → Reply ℕ
serialize_of b d m at =
    unless_long (length d) (cond (ltb m (at + length (command_of b d))) (refused 16) (ok (length (command_of b d))))

-- the buffer after it: bytes before the command and after it stay, and a refusal changes nothing (rules 1.25 and 3.9)
abbrev pub buffer_after : Reply ℕ → CommandBuilder → List ℕ → List ℕ → ℕ → List ℕ
buffer_after (ok n) b d buffer at = over_at at (command_of b d) buffer
buffer_after (refused k) b d buffer at = buffer

-- the promises of `lowered` and `required_len`
abbrev pub LoweredIs : CommandBuilder → CommandBuilder → Type 0
LoweredIs b x = x ≡ lowered_of b

abbrev pub RequiredLenIs : CommandBuilder → List ℕ → Result ℕ Refusal → Type 0
RequiredLenIs b d x = as_reply x ≡ unless_long (length d) (ok (required_len b (length d)))

-- the promise of `serialize_into`
pub record SerializeIntoIs (b : CommandBuilder) (d before : List ℕ) (at : ℕ) (x : Result ℕ Refusal) (after : List ℕ) : Type 0 where
  pub reply : as_reply x ≡ serialize_of b d (length before) at
  pub buffer : after ≡ buffer_after (serialize_of b d (length before) at) b d before at
