-- The class byte. ISO/IEC 7816-4:2005 5.1.1: 'FF' is no class.
use Rattle.std.specs.Prelude.{ℕ, ◌≡◌, Result, cond, eqb}
use Rattle.basis.specs.Reply.{Reply, ok, refused}
use Rattle.basis.specs.Refusal.{as_reply}
use Rattle.basis.specs.declared.refusal.Refusal.{Refusal}
use Rattle.class.specs.declared.Class.{Class}

-- the class of a byte; FF is refused with 3 (rule 1.3)
unfoldable pub from_byte : ℕ → Reply Class
from_byte c = cond (eqb c 0xFF) (refused 3) (ok (record { cla = c }))

-- the promises of `from_byte` and `into_inner`
abbrev pub FromByteIs : ℕ → Result Class Refusal → Type 0
FromByteIs c r = as_reply r ≡ from_byte c

abbrev pub IntoInnerIs : Class → ℕ → Type 0
IntoInnerIs c r = r ≡ c.cla
