-- The chaining bit (rules 8.2 and 8.3): the operations on bits that the code uses do what the definitions say in
-- numbers.
use Prim.Native.Nat.{ℕ, ◌*◌}
use mathlib.Core.Path.{◌≡◌, ap, ◌∙◌}
use mathlib.Core.Bool.{Bool}
use native.Mathlib.Omega.{arith}
use lib.Bits.{bit_and, bit_or, and_high, or_add_and}
use lib.Dec.{eqb}
use Rattle.class.specs.Chain.{chaining_bit, chained, ChainIs, NotTheLastIs}
use Rattle.class.specs.declared.Class.{Class}
use Rattle.class.specs.declared.chain.Chain.{Chain}

pub chaining_bit_and : (c : ℕ) → bit_and c 0x10 ≡ 16 * chaining_bit c
chaining_bit_and c = and_high c 1 4 ∙ omega arith

pub chained_or : (c : ℕ) → bit_or c 0x10 ≡ chained c
chained_or c = omega (arith, or_add_and c 0x10, chaining_bit_and c)

-- `not_the_last` says yes exactly if the bit is set
pub not_the_last_bit : (c : Class) (x : Chain) (y : Bool) → ChainIs c x → NotTheLastIs x y → y ≡ eqb (chaining_bit c.cla) 1
not_the_last_bit c x y e f = f ∙ ap (λ (n : ℕ). eqb n 1) e
