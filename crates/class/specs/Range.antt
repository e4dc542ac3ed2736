-- The range of a class, the same in both readings (rule 8.1). ISO/IEC 7816-4:2005 5.1.1, tables 2 and 3.
use Rattle.std.specs.Prelude.{ℕ, ◌≡◌, Result, Ok, Err, cond, eqb, ltb}
use Rattle.basis.specs.Reply.{Reply, ok, refused, then}
use Rattle.basis.specs.Refusal.{refusal_number}
use Rattle.basis.specs.declared.refusal.Refusal.{Refusal}
use Rattle.class.specs.Class.{from_byte}
use Rattle.class.specs.declared.Class.{Class}
use Rattle.class.specs.declared.range.Range.{Range}
use Rattle.class.specs.declared.range.Range.TheVariants as range
use Rattle.class.specs.declared.range.Interindustry.TheVariants.{First, Further, Reserved}

-- the numbers of the ranges: first and further interindustry, reserved, proprietary
abbrev pub first : ℕ
first = 0

abbrev pub further : ℕ
further = 1

abbrev pub reserved : ℕ
reserved = 2

abbrev pub proprietary : ℕ
proprietary = 3

-- the range of a class byte that is a class (rule 8.1): 00 to 1F first, 20 to 3F reserved, 40 to 7F further, 80 to FE
-- proprietary
unfoldable pub range_of : ℕ → ℕ
range_of c = cond (ltb c 0x20) first (cond (ltb c 0x40) reserved (cond (ltb c 0x80) further proprietary))

-- one of three by the range: first interindustry, further interindustry, any other
abbrev pub by_range : {A : Type 0} → ℕ → A → A → A → A
by_range x a b o = cond (eqb x first) a (cond (eqb x further) b o)

-- the range of a byte; FF is no class and is refused with 3 (rule 8.1)
unfoldable pub from_cla : ℕ → Reply ℕ
from_cla c = then (from_byte c) (λ x. ok (range_of x.cla))

-- the answers of the code as these numbers (rule 12.13)
abbrev pub range_as_number : Range → ℕ
range_as_number (range.Interindustry First) = first
range_as_number (range.Interindustry Further) = further
range_as_number (range.Interindustry Reserved) = reserved
range_as_number range.Proprietary = proprietary

abbrev pub from_cla_as_reply : Result Range Refusal → Reply ℕ
from_cla_as_reply (Ok x) = ok (range_as_number x)
from_cla_as_reply (Err k) = refused (refusal_number k)

-- the promises of `range` and `from_cla`
abbrev pub RangeIs : Class → Range → Type 0
RangeIs c r = range_as_number r ≡ range_of c.cla

abbrev pub FromClaIs : ℕ → Result Range Refusal → Type 0
FromClaIs c r = from_cla_as_reply r ≡ from_cla c
