-- A reading by its number: 0 is the crate reading, any other number the standard reading. So every number has a
-- meaning.
use Rattle.std.specs.Prelude.{ℕ, ◌≡◌, cond, eqb}
use Rattle.class.specs.declared.Reading as class
use Rattle.class.specs.declared.Reading.TheVariants as class_reading_by_number_cases
use Rattle.tlv.specs.declared.Reading as tlv
use Rattle.tlv.specs.declared.Reading.TheVariants as tlv_reading_by_number_cases

-- the reading of a command, and of a BER record
unfoldable pub class_reading_by_number : ℕ → class.Reading
class_reading_by_number n = cond (eqb n 0) class_reading_by_number_cases.Crate class_reading_by_number_cases.Standard

unfoldable pub tlv_reading_by_number : ℕ → tlv.Reading
tlv_reading_by_number n = cond (eqb n 0) tlv_reading_by_number_cases.Crate tlv_reading_by_number_cases.Standard

-- the promises of `class_reading_by_number` and `tlv_reading_by_number`
abbrev pub ClassReadingByNumberIs : ℕ → class.Reading → Type 0
ClassReadingByNumberIs n r = r ≡ class_reading_by_number n

abbrev pub TlvReadingByNumberIs : ℕ → tlv.Reading → Type 0
TlvReadingByNumberIs n r = r ≡ tlv_reading_by_number n
