-- What `new` makes (rules 1.27 and 3.2).
use Rattle.std.specs.Prelude.{ℕ, ◌≤◌, ◌≡◌}
use Rattle.builder.specs.declared.ExpectedLen.{ExpectedLen}
use Rattle.builder.specs.declared.ExtendedLen.{ExtendedLen}
use Rattle.builder.specs.declared.CommandBuilder.{CommandBuilder}

-- b has these fields, its class byte is not 0xFF, and n data bytes are not too many
pub record Made (c i p q n : ℕ) (e : ExpectedLen) (m : ExtendedLen) (b : CommandBuilder) : Type 0 where
  pub class : b.class.cla ≡ 0xFF → ⊥
  pub few : n ≤ 65535
  pub fields : b ≡ record { class = record { cla = c }; instruction = i; p1 = p; p2 = q; le = e; mode = m }
