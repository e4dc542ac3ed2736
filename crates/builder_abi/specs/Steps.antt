-- What the private functions reply, for a builder that was made or refused.
use Rattle.std.specs.Prelude.{ℕ, Bool, List, [], ◌∷◌, length}
use Rattle.basis.specs.Reply.{Reply, ok, then}
use Rattle.class.specs.declared.Reading.TheVariants.{Crate}
use Rattle.command.specs.Command.{parse, data_in}
use Rattle.abi.specs.Answers.{flag_of}
use Rattle.builder.specs.Builder.{unless_long, forced_of}
use Rattle.builder.specs.Bytes.{required_len}
use Rattle.builder_compare.specs.Compare.{equal_to}
use Rattle.builder.specs.declared.CommandBuilder.{CommandBuilder}
use Rattle.builder_abi.specs.Numbers.{with_both}

-- the builder with extended lengths forced
abbrev pub forcing : Reply CommandBuilder → Reply CommandBuilder
forcing x = then x (λ b. forced_of b b.mode)

-- the length of its command with the data d
abbrev pub required : Reply CommandBuilder → List ℕ → Reply ℕ
required x d = then x (λ b. unless_long (length d) (ok (required_len b (length d))))

-- the same as a row of one number
abbrev pub requiring : Reply CommandBuilder → List ℕ → Reply (List ℕ)
requiring x d = then x (λ b. then (unless_long (length d) (ok (required_len b (length d)))) (λ n. ok (n ∷ [])))

-- whether it equals the command s, with the data d
abbrev pub comparing : Reply CommandBuilder → List ℕ → List ℕ → Reply Bool
comparing x d s = with_both x (parse Crate s) (λ b v. unless_long (length d) (ok (equal_to b d v (data_in s (parse Crate s)))))

-- the result of a comparison as a row of one number
abbrev pub equal_numbers : Reply Bool → Reply (List ℕ)
equal_numbers x = then x (λ b. ok (flag_of b ∷ []))
