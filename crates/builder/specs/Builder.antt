-- Making a builder and forcing extended lengths. Rules 3.1 and 3.2; refusals 3, 13 and 15.
use Rattle.std.specs.Prelude.{ℕ, ◌≡◌, Result, cond, List, ltb, length}
use Rattle.basis.specs.Reply.{Reply, ok, refused, then}
use Rattle.basis.specs.Refusal.{as_reply}
use Rattle.basis.specs.declared.refusal.Refusal.{Refusal}
use Rattle.class.specs.Class.{from_byte}
use Rattle.builder.specs.declared.ExpectedLen.{ExpectedLen}
use Rattle.builder.specs.declared.ExtendedLen.{ExtendedLen}
use Rattle.builder.specs.declared.ExtendedLen.TheVariants.{Unsupported, Supported, Forced}
use Rattle.builder.specs.declared.CommandBuilder.{CommandBuilder}

-- the reply x for n data bytes, or 13 if they are above 65,535 (rule 1.13)
abbrev pub unless_long : {A : Type 0} → ℕ → Reply A → Reply A
unless_long n x = cond (ltb 65535 n) (refused 13) x

-- a builder for n data bytes: the class byte is tested first (3), then the data (13); rules 1.22, 1.27 and 3.2
unfoldable pub new_of : ℕ → ℕ → ℕ → ℕ → ℕ → ExpectedLen → ExtendedLen → Reply CommandBuilder
new_of c i p q n e m =
    then (from_byte c) (λ k. unless_long n (ok (record { class = k; instruction = i; p1 = p; p2 = q; le = e; mode = m })))

-- a builder in another mode
abbrev pub in_mode : CommandBuilder → ExtendedLen → CommandBuilder
in_mode b m = record { class = b.class; instruction = b.instruction; p1 = b.p1; p2 = b.p2; le = b.le; mode = m }

-- extended lengths forced: 15 if they are unsupported (rules 1.15 and 3.2)
abbrev pub forced_of : CommandBuilder → ExtendedLen → Reply CommandBuilder
forced_of b Unsupported = refused 15
forced_of b Supported = ok (in_mode b Forced)
forced_of b Forced = ok (in_mode b Forced)

-- the promises of `new` and `force_extended`
abbrev pub NewIs : ℕ → ℕ → ℕ → ℕ → List ℕ → ExpectedLen → ExtendedLen → Result CommandBuilder Refusal → Type 0
NewIs c i p q d e m x = as_reply x ≡ new_of c i p q (length d) e m

abbrev pub ForceExtendedIs : CommandBuilder → Result CommandBuilder Refusal → Type 0
ForceExtendedIs b x = as_reply x ≡ forced_of b b.mode
