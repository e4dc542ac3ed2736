-- The number of an expected length, as a host program gets it (rule 3.1).
use Rattle.std.specs.Prelude.{ℕ, ◌≡◌}
use Rattle.builder.specs.Bytes.{le_number}
use Rattle.builder.specs.declared.ExpectedLen.{ExpectedLen}

-- the promise of `expected_len_number`: 65,536 for Max
abbrev pub ExpectedLenNumberIs : ExpectedLen → ℕ → Type 0
ExpectedLenNumberIs x n = n ≡ le_number x
