-- The numbers of a command that are written for the host. Rules 12.3 and 12.6.
use Rattle.std.specs.Prelude.{ℕ, List, [], ◌∷◌}
use Rattle.basis.specs.Reply.{Reply, ok, then}
use Rattle.command.specs.Command.{parse}
use Rattle.command.specs.declared.CommandView.{CommandView}
use Rattle.abi.specs.Answers.{flag_of}
use Rattle.abi.specs.Readings.{class_reading_by_number}

-- the row: class, instruction, P1, P2, place and length of the data, expected length, extended
unfoldable pub view_numbers : CommandView → List ℕ
view_numbers v =
    v.class.cla ∷ v.instruction ∷ v.p1 ∷ v.p2 ∷ v.at ∷ v.len ∷ v.le ∷ flag_of v.extended ∷ []

-- what `gorvisclen_command` writes, in the reading with number n
unfoldable pub command_reply : ℕ → List ℕ → Reply (List ℕ)
command_reply n s = then (parse (class_reading_by_number n) s) (λ v. ok (view_numbers v))
