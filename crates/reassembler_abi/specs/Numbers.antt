-- The reassembler for a host: its states and answers as numbers, and what the exported functions leave in the slices
-- that a host lends. Rules 5.1 to 5.9, 1.16, 1.22, 1.24 and 1.25.
use Rattle.std.specs.Prelude.{ℕ, ◌≡◌, cond, List, [], ◌∷◌, ◌++◌, eqb, ltb, length, take}
use Rattle.std.specs.Option.{option_map_or}
use Rattle.std.proofs.Math.Option.{Option, none, some}
use Rattle.basis.specs.Reply.{Reply, ok, refused, then}
use Rattle.class.specs.Class.{from_byte}
use Rattle.command.specs.declared.owned.Command.{Command}
use Rattle.reassembler.specs.Join.{closed, open_with, join_of}
use Rattle.reassembler.specs.declared.OpenChain.{OpenChain}
use Rattle.reassembler.specs.declared.Reassembler.{Reassembler}
use Rattle.abi.specs.Answers.{if_long_enough, room_after, NumbersWritten, BytesCopied}
use Rattle.abi.specs.Commands.{command_numbers}

-- the state that six numbers stand for. First 0: no chain is open, and no other number counts. Else: an open chain with
-- class, instruction, P1, P2 and so many bytes held. No chain has the class byte 0xFF: 3
unfoldable pub state_by_numbers : ℕ → ℕ → ℕ → ℕ → ℕ → ℕ → Reply Reassembler
state_by_numbers o c i p q n =
    cond (eqb o 0) (ok closed) (then (from_byte c) (λ k. ok (open_with (record { class = k; instruction = i; p1 = p; p2 = q; len = n }))))

-- the state for a piece s: the smallest number is given (rule 1.22), so a piece under 4 bytes is refused with 1 before
-- 3
abbrev pub state_met : List ℕ → Reply Reassembler → Reply Reassembler
state_met s x = cond (ltb (length s) 4) (refused 1) x

-- the numbers of an open chain, in the same order
unfoldable pub open_chain_numbers : OpenChain → List ℕ
open_chain_numbers h = 1 ∷ h.class.cla ∷ h.instruction ∷ h.p1 ∷ h.p2 ∷ h.len ∷ []

-- the numbers of a state: zeros if no chain is open
abbrev pub state_numbers : Reassembler → List ℕ
state_numbers r = option_map_or open_chain_numbers r.«open» (0 ∷ 0 ∷ 0 ∷ 0 ∷ 0 ∷ 0 ∷ [])

-- the numbers of an answer that is a command: 1, and those of the command
unfoldable pub command_answer_numbers : Command → List ℕ
command_answer_numbers c = 1 ∷ command_numbers c

-- the numbers of an answer: zeros for "more"
abbrev pub answer_numbers : Option Command → List ℕ
answer_numbers none = 0 ∷ 0 ∷ 0 ∷ 0 ∷ 0 ∷ 0 ∷ 0 ∷ 0 ∷ []
answer_numbers (some c) = command_answer_numbers c

-- the numbers of an answer, and after them those of the state
abbrev pub join_reply : Reply (Option Command) → Reassembler → Reply (List ℕ)
join_reply y r = then y (λ a. ok (answer_numbers a ++ state_numbers r))

-- the numbers written for a piece s in the state x
abbrev pub joined_by : Reply Reassembler → List ℕ → List ℕ → Reply (List ℕ)
joined_by (ok r) room s = join_reply (join_of r room s).reply (join_of r room s).state
joined_by (refused k) room s = refused k

-- the room after a piece s in the state x
abbrev pub room_by : Reply Reassembler → List ℕ → List ℕ → List ℕ
room_by (ok r) room s = (join_of r room s).room
room_by (refused k) room s = room

-- the promise of `gorvisclen_join`, for the state x
pub record PieceJoined (x : Reply Reassembler) (s room out : List ℕ) (r : ℕ) (room' out' : List ℕ) : Type 0 where
  pub says : NumbersWritten 14 (joined_by x room s) out r out'
  pub bytes : room' ≡ room_after (if_long_enough 14 (length out) (joined_by x room s)) (room_by x room s) room

-- the first number of a state: whether a chain is open
abbrev pub opened_number : Reassembler → ℕ
opened_number r = option_map_or (λ h. 1) r.«open» 0

-- the promise of `gorvisclen_reset`: it always succeeds, and no chain is open (rule 5.8)
abbrev pub ResetIs : ℕ → ℕ → ℕ → ℕ → ℕ → ℕ → ℕ → Type 0
ResetIs o c i p q n x = x ≡ 0

-- the promise of `gorvisclen_joined_data`: the first n bytes of the room (all if it has fewer), copied and counted
abbrev pub JoinedData : ℕ → List ℕ → List ℕ → List ℕ → ℕ → List ℕ → List ℕ → Type 0
JoinedData n room to out x to' out' = BytesCopied (take n room) to out x to' out'
