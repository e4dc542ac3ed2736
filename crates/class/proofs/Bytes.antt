-- Which bytes are classes: all but FF (rule 1.3).
use Prim.Native.Nat.{ℕ}
use mathlib.Core.Path.{◌≡◌}
use borrow.Author.Tests.{eq-eqb, ne_eqb}
use Rattle.basis.specs.Reply.{ok, refused}
use Rattle.class.specs.Class.{from_byte}

module _ (c : ℕ) where
  pub no_class : c ≡ 0xFF → from_byte c ≡ refused 3
  unfolding from_byte
  no_class h = rw (eq-eqb c 0xFF h)

  pub class_of : (c ≡ 0xFF → ⊥) → from_byte c ≡ ok (record { cla = c })
  unfolding from_byte
  class_of h = rw (ne_eqb c 0xFF h)
