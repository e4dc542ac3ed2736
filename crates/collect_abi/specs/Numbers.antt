-- A collection for a host: its states and answers as numbers, and what the exported functions leave in the slices that
-- a host lends. Rules 14.1 to 14.8, 1.16, 1.22, 1.24 and 1.25.
use Rattle.std.specs.Prelude.{ℕ, ◌≡◌, cond, List, [], ◌∷◌, eqb, length, take}
use Rattle.basis.specs.Reply.{Reply, ok, refused, then}
use Rattle.builder.specs.Bytes.{le_number}
use Rattle.builder.specs.declared.CommandBuilder.{CommandBuilder}
use Rattle.builder.specs.declared.ExtendedLen.{ExtendedLen}
use Rattle.builder.specs.declared.ExtendedLen.TheVariants.{Unsupported, Supported, Forced}
use Rattle.collect.specs.Collect.{Going, send, done, step_of, step_room}
use Rattle.collect.specs.declared.Sent.{Sent}
use Rattle.collect.specs.declared.Sent.TheVariants.{Command, GetResponse}
use Rattle.collect.specs.declared.Collection.{Collection}
use Rattle.abi.specs.Answers.{if_long_enough, room_after, NumbersWritten, BytesCopied}
use Rattle.abi.specs.Builders.{builder_by_numbers}
use Rattle.abi.specs.Serialized.{Serialized}

-- the number of a mode, as the host gives it
abbrev pub mode_number : ExtendedLen → ℕ
mode_number Unsupported = 0
mode_number Supported = 1
mode_number Forced = 2

-- the numbers of a state: its kind, class, instruction, P1, P2, expected length (65,536 for Max), mode, how many bytes
-- are held
unfoldable pub builder_numbers : ℕ → CommandBuilder → ℕ → List ℕ
builder_numbers k b n =
    k ∷ b.class.cla ∷ b.instruction ∷ b.p1 ∷ b.p2 ∷ le_number b.le ∷ mode_number b.mode ∷ n ∷ []

-- the same by what was sent: kind 0 for the command, 1 for GET RESPONSE
abbrev pub sent_numbers : Sent → ℕ → List ℕ
sent_numbers (Command b) n = builder_numbers 0 b n
sent_numbers (GetResponse b) n = builder_numbers 1 b n

abbrev pub state_numbers : Collection → List ℕ
state_numbers c = sent_numbers c.sent c.len

-- the numbers of the state after a command was sent, the builder being given by numbers, with the data d (rule 14.1)
unfoldable pub start_reply : ℕ → ℕ → ℕ → ℕ → ℕ → ℕ → List ℕ → Reply (List ℕ)
start_reply c i p q e m d =
    then (builder_by_numbers c i p q e m d) (λ b. ok (state_numbers (record { sent = Command b; len = 0 })))

-- the data that go with a kind: d with 0, the command; none with any other, GET RESPONSE (rule 14.7)
abbrev pub data_by_kind : ℕ → List ℕ → List ℕ
data_by_kind k d = cond (eqb k 0) d []

-- what was sent, by its kind
abbrev pub sent_by_kind : ℕ → CommandBuilder → Sent
sent_by_kind k b = cond (eqb k 0) (Command b) (GetResponse b)

-- the state that eight numbers stand for: refused with 3. It needs no data
unfoldable pub state_by_numbers : ℕ → ℕ → ℕ → ℕ → ℕ → ℕ → ℕ → ℕ → Reply Collection
state_by_numbers k c i p q e m n =
    then (builder_by_numbers c i p q e m []) (λ b. ok (record { sent = sent_by_kind k b; len = n }))

-- the numbers of an answer that goes on: four zeros, and those of the state
unfoldable pub sending_numbers : Collection → List ℕ
sending_numbers c = 0 ∷ 0 ∷ 0 ∷ 0 ∷ state_numbers c

-- the numbers of an answer: at the end 1, SW1, SW2, length and eight zeros
abbrev pub going_numbers : Going → List ℕ
going_numbers (send c) = sending_numbers c
going_numbers (done r) = 1 ∷ r.status.sw1 ∷ r.status.sw2 ∷ r.len ∷ 0 ∷ 0 ∷ 0 ∷ 0 ∷ 0 ∷ 0 ∷ 0 ∷ 0 ∷ []

abbrev pub stepped_reply : Reply Going → Reply (List ℕ)
stepped_reply x = then x (λ g. ok (going_numbers g))

-- the numbers written for a response s in the state x, with a room of m bytes
abbrev pub stepped_by : Reply Collection → List ℕ → ℕ → Reply (List ℕ)
stepped_by x s m = then x (λ c. stepped_reply (step_of c s m))

-- the room after a response s in the state x
abbrev pub room_by : Reply Collection → List ℕ → List ℕ → List ℕ
room_by (ok c) s room = step_room c s room
room_by (refused k) s room = room

-- the promise of `gorvisclen_collect_step`, for the state x (rules 14.2 to 14.6)
pub record ResponseTaken (x : Reply Collection) (s room out : List ℕ) (r : ℕ) (room' out' : List ℕ) : Type 0 where
  pub says : NumbersWritten 12 (stepped_by x s (length room)) out r out'
  pub bytes : room' ≡ room_after (if_long_enough 12 (length out) (stepped_by x s (length room))) (room_by x s room) room

-- the promise of `gorvisclen_collect_write`: the command of the builder that the numbers stand for, with the data that
-- go with the kind (rule 14.7)
abbrev pub SentWritten : ℕ → ℕ → ℕ → ℕ → ℕ → ℕ → ℕ → List ℕ → ℕ → List ℕ → List ℕ → ℕ → List ℕ → List ℕ → Type 0
SentWritten k c i p q e m d at buffer out r buffer' out' =
    Serialized (builder_by_numbers c i p q e m (data_by_kind k d)) (data_by_kind k d) at buffer out r buffer' out'

-- the promise of `gorvisclen_collected`: the first n bytes of the room (all if it has fewer), copied and counted (rule
-- 14.8)
abbrev pub CollectedData : ℕ → List ℕ → List ℕ → List ℕ → ℕ → List ℕ → List ℕ → Type 0
CollectedData n room to out x to' out' = BytesCopied (take n room) to out x to' out'
