-- The secure messaging indication in both readings (rules 8.4 and 8.5). ISO/IEC 7816-4:2005 5.1.1, tables 2 and 3.
use Rattle.std.specs.Prelude.{ℕ, ◌/◌, ◌%◌, ◌≡◌, Bool, cond, eqb}
use Rattle.class.specs.Range.{range_of, by_range}
use Rattle.class.specs.declared.Class.{Class}
use Rattle.class.specs.declared.Reading.{Reading}
use Rattle.class.specs.declared.Reading.TheVariants as reading
use Rattle.class.specs.declared.secure_messaging.SecureMessaging.{SecureMessaging}
use Rattle.class.specs.declared.secure_messaging.SecureMessaging.TheVariants.{None, Proprietary, Standard, Authenticated, Unknown}

-- the numbers of the indications, in the order of the Rust's enum; 0 to 3 are the two bits of the table
abbrev pub none : ℕ
none = 0

abbrev pub proprietary : ℕ
proprietary = 1

abbrev pub standard : ℕ
standard = 2

abbrev pub authenticated : ℕ
authenticated = 3

abbrev pub unknown : ℕ
unknown = 4

-- first interindustry: bits 4 and 3 (rule 8.4)
abbrev pub first_of : ℕ → ℕ
first_of c = c / 4 % 4

-- further interindustry: the Rust says `Standard` always, the standard goes by bit 6 (rule 8.5)
unfoldable pub further_of : Reading → ℕ → ℕ
further_of reading.Crate c = standard
further_of reading.Standard c = cond (eqb (c / 32 % 2) 0) none standard

-- the indication of a class: a reserved or proprietary class says nothing, so it is unknown (rule 8.4)
unfoldable pub secure_messaging_of : Reading → ℕ → ℕ
secure_messaging_of r c = by_range (range_of c) (first_of c) (further_of r c) unknown

-- an answer of the code as its number
abbrev pub secure_messaging_as_number : SecureMessaging → ℕ
secure_messaging_as_number None = none
secure_messaging_as_number Proprietary = proprietary
secure_messaging_as_number Standard = standard
secure_messaging_as_number Authenticated = authenticated
secure_messaging_as_number Unknown = unknown

-- the promises of `secure_messaging` and `none`
abbrev pub SecureMessagingIs : Reading → Class → SecureMessaging → Type 0
SecureMessagingIs r c x = secure_messaging_as_number x ≡ secure_messaging_of r c.cla

abbrev pub NoneIs : SecureMessaging → Bool → Type 0
NoneIs x r = r ≡ eqb (secure_messaging_as_number x) none
