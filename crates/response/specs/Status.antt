-- The status of a response as a word, and its class by ISO/IEC 7816-4:2005 5.1.3. Rules 13.3 and 13.4.
use Rattle.std.specs.Prelude.{ℕ, ◌+◌, ◌*◌, ◌≡◌, cond, eqb, leb}
use Rattle.response.specs.declared.status.Status.{Status}
use Rattle.response.specs.declared.status.StatusClass.{StatusClass}
use Rattle.response.specs.declared.status.StatusClass.TheVariants.{Normal, Warning, ExecutionError, CheckingError, Unknown}

-- the status as one number: SW1 is its high byte (rule 13.3)
unfoldable pub word_of : Status → ℕ
word_of t = t.sw1 * 256 + t.sw2

-- the numbers of the classes, in the order of document 02
abbrev pub normal : ℕ
normal = 0

abbrev pub warning : ℕ
warning = 1

abbrev pub execution_error : ℕ
execution_error = 2

abbrev pub checking_error : ℕ
checking_error = 3

abbrev pub unknown : ℕ
unknown = 4

-- the class by SW1 alone: 61 normal, 62 and 63 warning, 64 to 66 execution error, 67 to 6F checking error, any other
-- unknown (rule 13.4)
unfoldable pub class_by_sw1 : ℕ → ℕ
class_by_sw1 a =
    cond (leb a 0x60) unknown
    (cond (leb a 0x61) normal
    (cond (leb a 0x63) warning
    (cond (leb a 0x66) execution_error
    (cond (leb a 0x6F) checking_error unknown))))

-- the class of a status: 9000 is normal, any other 90xx unknown, the rest goes by SW1 (rule 13.4)
unfoldable pub class_of : Status → ℕ
class_of t = cond (eqb t.sw1 0x90) (cond (eqb t.sw2 0x00) normal unknown) (class_by_sw1 t.sw1)

-- an answer of the code as its number
abbrev pub class_as_number : StatusClass → ℕ
class_as_number Normal = normal
class_as_number Warning = warning
class_as_number ExecutionError = execution_error
class_as_number CheckingError = checking_error
class_as_number Unknown = unknown

-- the promises of `word` and `class`
abbrev pub WordIs : Status → ℕ → Type 0
WordIs t x = x ≡ word_of t

abbrev pub ClassIs : Status → StatusClass → Type 0
ClassIs t x = class_as_number x ≡ class_of t
