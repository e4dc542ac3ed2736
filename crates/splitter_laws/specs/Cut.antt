-- What one step of splitting may reply. Rules 4.3 and 4.4.
use Rattle.std.specs.Prelude.{ℕ, ◌≤◌, ◌<◌, ◌≡◌}
use Rattle.std.proofs.Math.Option.{Option, none, some}
use Rattle.builder.specs.Bytes.{lowered_of}
use Rattle.builder.specs.declared.CommandBuilder.{CommandBuilder}
use Rattle.splitter.specs.Step.{room_of, first_of}
use Rattle.splitter.specs.declared.step.Split.{Split}

-- the split of n data bytes for a buffer of m bytes: the first part takes exactly the room (rule 4.4)
abbrev pub split_of : CommandBuilder → ℕ → ℕ → Split
split_of b n m = record { first = first_of b; len = room_of b n m; rest = lowered_of b }

-- such a split takes at least a byte and leaves at least one
pub record Splits (b : CommandBuilder) (n m : ℕ) (s : Split) : Type 0 where
  pub some : 1 ≤ s.len
  pub fewer : s.len < n
  pub split : s ≡ split_of b n m

-- what a step may reply: no split if the room covers the data, or such a split (rule 4.3)
abbrev pub Stepped : CommandBuilder → ℕ → ℕ → Option Split → Type 0
Stepped b n m none = n ≤ room_of b n m
Stepped b n m (some s) = Splits b n m s
