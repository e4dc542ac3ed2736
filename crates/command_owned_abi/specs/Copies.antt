-- What the exported functions leave in the slices that a host lends. Rules 1.2, 1.16, 1.18, 1.26 and 2.8 to 2.10.
use Rattle.std.specs.Prelude.{ℕ, ◌≡◌, true, List, length}
use Rattle.basis.specs.Reply.{Reply, ok, refused, then, status}
use Rattle.basis.specs.Over.{over}
use Rattle.class.specs.declared.Reading.{Reading}
use Rattle.class.specs.declared.Reading.TheVariants.{Crate}
use Rattle.command.specs.Command.{parse, data_in}
use Rattle.command.specs.Owned.{taken_of, owned_of, copied_room, extend_of as extending, held_after, extended_room}
use Rattle.command.specs.declared.CommandView.{CommandView}
use Rattle.command.specs.declared.owned.Command.{Command}
use Rattle.abi.specs.Answers.{if_long_enough, out_after, ReplyCopied}
use Rattle.abi.specs.Readings.{class_reading_by_number}
use Rattle.abi.specs.Commands.{command_numbers}

-- the data of a command that was read, in the reading with number n
abbrev pub data_by : ℕ → List ℕ → Reply (List ℕ)
data_by n s = then (parse (class_reading_by_number n) s) (λ v. ok (data_in s (ok v)))

-- the promise of `gorvisclen_command_data`
abbrev pub DataCopied : ℕ → List ℕ → List ℕ → List ℕ → ℕ → List ℕ → List ℕ → Type 0
DataCopied n s = ReplyCopied (data_by n s)

-- an owned copy in a room of m bytes, with its numbers in a slice of n: 16 if that is too short
abbrev pub owning : Reading → List ℕ → ℕ → ℕ → Reply Command
owning r s m n = if_long_enough 7 n (then (parse r s) (owned_of m))

-- the promise of `gorvisclen_command_owned`
pub record OwnedCopied (r : Reading) (s room out : List ℕ) (x : ℕ) (room' out' : List ℕ) : Type 0 where
  pub reply : x ≡ status (owning r s (length room) (length out))
  pub bytes : room' ≡ copied_room (owning r s (length room) (length out)) (data_in s (parse r s)) room
  pub row : out' ≡ out_after (then (owning r s (length room) (length out)) (λ c. ok (command_numbers c))) out

-- n held bytes extended by the command v with the data d: its row is written also if the data do not fit (rule 1.26)
pub record Extends (n : ℕ) (v : CommandView) (d room out : List ℕ) (x : ℕ) (room' out' : List ℕ) : Type 0 where
  pub reply : x ≡ status (extending n (length d) (length room))
  pub bytes : room' ≡ extended_room (extending n (length d) (length room)) n d room
  pub row : out' ≡ over (command_numbers (taken_of v (held_after (extending n (length d) (length room)) n) true)) out

-- the same by the reply of the parser, or 16 for a slice that is too short: such a refusal changes nothing. Only 18,
-- which is a case of `Extends`, writes numbers
abbrev pub ExtendsBy : Reply CommandView → ℕ → List ℕ → List ℕ → List ℕ → ℕ → List ℕ → List ℕ → Type 0
ExtendsBy (ok v) n d room out x room' out' = Extends n v d room out x room' out'
ExtendsBy (refused k) n d room out x room' out' = (x ≡ k) × (room' ≡ room) × (out' ≡ out)

-- the promise of `gorvisclen_command_extend`
abbrev pub Extended : ℕ → List ℕ → List ℕ → List ℕ → ℕ → List ℕ → List ℕ → Type 0
Extended n s room out x room' out' =
    ExtendsBy (if_long_enough 7 (length out) (parse Crate s)) n (data_in s (parse Crate s)) room out x room' out'
