-- Laws of builders by numbers: one that is made has at most 65,535 data bytes, so no further test of their number
-- refuses.
use Prim.Native.Nat.{ℕ, ◌≤◌}
use mathlib.Core.List.{List}
use lib.ListN.{length}
use Rattle.basis.specs.Reply.{Reply}
use Rattle.basis.proofs.Reply.{All}
use Rattle.builder.specs.declared.CommandBuilder.{CommandBuilder}
use Rattle.builder.proofs.Data.{new_few}
use Rattle.abi.specs.Builders.{expected_len_by_number, mode_by_number, builder_by_numbers}

-- n data bytes are at most 65,535, if the reply is a builder
abbrev pub Few : ℕ → Reply CommandBuilder → Type 0
Few n x = All (λ b. n ≤ 65535) x

pub few : (c i p q e m : ℕ) (d : List ℕ) → Few (length d) (builder_by_numbers c i p q e m d)
unfolding builder_by_numbers
few c i p q e m d = new_few c i p q (length d) (expected_len_by_number e) (mode_by_number m)
