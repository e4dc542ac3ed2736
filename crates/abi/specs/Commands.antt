-- An owned command by numbers, in the order in which a host program gets them (rule 12.3).
use Rattle.std.specs.Prelude.{ℕ, ◌≡◌, false, List, [], ◌∷◌}
use Rattle.command.specs.declared.owned.Command.{Command}
use Rattle.abi.specs.Answers.{flag_of}

-- class, instruction, P1, P2, length of the data, Le, extended; the data are at the start of the room
unfoldable pub command_numbers : Command → List ℕ
command_numbers c = c.class.cla ∷ c.instruction ∷ c.p1 ∷ c.p2 ∷ c.len ∷ c.le ∷ flag_of c.extended ∷ []

-- a command of which only the length of the data matters
abbrev pub command_of_length : ℕ → Command
command_of_length n =
    record { class = record { cla = 0x00 }; instruction = 0; p1 = 0; p2 = 0; len = n; le = 0; extended = false }

-- the promises of `command_numbers` and `command_of_length`
abbrev pub CommandNumbersIs : Command → List ℕ → Type 0
CommandNumbersIs c r = r ≡ command_numbers c

abbrev pub CommandOfLengthIs : ℕ → Command → Type 0
CommandOfLengthIs n r = r ≡ command_of_length n
