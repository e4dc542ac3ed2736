-- The chaining bit, the same in both readings (rules 8.2 and 8.3). ISO/IEC 7816-4:2005 5.1.1 and 5.1.1.1.
use Rattle.std.specs.Prelude.{ℕ, ◌+◌, ◌*◌, ◌-◌, ◌/◌, ◌%◌, ◌≡◌, Bool, eqb}
use Rattle.class.specs.declared.Class.{Class}
use Rattle.class.specs.declared.chain.Chain.{Chain}
use Rattle.class.specs.declared.chain.Chain.TheVariants.{LastOrOnly, NotTheLast, Unknown}

-- bit 0x10 of a class byte (rule 8.2), and the byte with this bit set (rule 8.3)
abbrev pub chaining_bit : ℕ → ℕ
chaining_bit c = c / 16 % 2

abbrev pub chained : ℕ → ℕ
chained c = c + 16 * (1 - chaining_bit c)

-- the answers by number: the last or only command if the bit is clear, not the last if it is set
abbrev pub last_or_only : ℕ
last_or_only = 0

abbrev pub not_the_last : ℕ
not_the_last = 1

abbrev pub unknown : ℕ
unknown = 2

-- an answer of the code as its number
abbrev pub chain_as_number : Chain → ℕ
chain_as_number LastOrOnly = last_or_only
chain_as_number NotTheLast = not_the_last
chain_as_number Unknown = unknown

-- the promises of `chain`, `as_chained`, `last_or_only` and `not_the_last`
abbrev pub ChainIs : Class → Chain → Type 0
ChainIs c r = chain_as_number r ≡ chaining_bit c.cla

abbrev pub AsChainedIs : Class → Class → Type 0
AsChainedIs c r = r ≡ record { cla = chained c.cla }

abbrev pub LastOrOnlyIs : Chain → Bool → Type 0
LastOrOnlyIs x r = r ≡ eqb (chain_as_number x) last_or_only

abbrev pub NotTheLastIs : Chain → Bool → Type 0
NotTheLastIs x r = r ≡ eqb (chain_as_number x) not_the_last
