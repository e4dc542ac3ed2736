-- A builder by numbers (rules 3.1 and 3.2, refusals 3 and 13).
use Rattle.std.specs.Prelude.{ℕ, ◌≡◌, Result, cond, List, leb, eqb, length}
use Rattle.basis.specs.Reply.{Reply}
use Rattle.basis.specs.Refusal.{as_reply}
use Rattle.basis.specs.declared.refusal.Refusal.{Refusal}
use Rattle.builder.specs.Builder.{new_of}
use Rattle.builder.specs.declared.ExpectedLen.{ExpectedLen}
use Rattle.builder.specs.declared.ExpectedLen.TheVariants.{Ne, Max}
use Rattle.builder.specs.declared.ExtendedLen.{ExtendedLen}
use Rattle.builder.specs.declared.ExtendedLen.TheVariants.{Unsupported, Supported, Forced}
use Rattle.builder.specs.declared.CommandBuilder.{CommandBuilder}

-- the expected length by number: any above 65,535 is Max (rule 3.1)
unfoldable pub expected_len_by_number : ℕ → ExpectedLen
expected_len_by_number e = cond (leb e 65535) (Ne e) Max

-- the mode by number: 0 short only, 1 extended supported, any other extended forced (rule 3.1)
unfoldable pub mode_by_number : ℕ → ExtendedLen
mode_by_number m = cond (eqb m 0) Unsupported (cond (eqb m 1) Supported Forced)

-- the builder for the data d, from class, instruction, P1, P2, expected length and mode (rule 3.2)
unfoldable pub builder_by_numbers : ℕ → ℕ → ℕ → ℕ → ℕ → ℕ → List ℕ → Reply CommandBuilder
builder_by_numbers c i p q e m d = new_of c i p q (length d) (expected_len_by_number e) (mode_by_number m)

-- the promises of `expected_len_by_number`, `mode_by_number` and `builder_by_numbers`
abbrev pub ExpectedLenByNumberIs : ℕ → ExpectedLen → Type 0
ExpectedLenByNumberIs e x = x ≡ expected_len_by_number e

abbrev pub ModeByNumberIs : ℕ → ExtendedLen → Type 0
ModeByNumberIs m x = x ≡ mode_by_number m

abbrev pub BuilderByNumbersIs : ℕ → ℕ → ℕ → ℕ → ℕ → ℕ → List ℕ → Result CommandBuilder Refusal → Type 0
BuilderByNumbersIs c i p q e m d x = as_reply x ≡ builder_by_numbers c i p q e m d
