-- Lists of commands, each cut in short form for a buffer of its own: the words of demand 3 (rule 11.4).
use Rattle.std.specs.Prelude.{ℕ, ◌-◌, ◌≤◌, ◌≡◌, Bool, ltb, length, replicate}
use mathlib.Core.List.{List, [], ◌∷◌, ◌++◌, flat_map}
use Rattle.std.proofs.Math.Option.{Option, none, some}
use Rattle.basis.specs.Reply.{Reply, ok}
use Rattle.basis.specs.Over.{over}
use Rattle.class.specs.Chain.{chaining_bit}
use Rattle.splitter.specs.Pieces.{pieces_of}
use Rattle.splitter_laws.specs.Asked.{short_of}
use Rattle.roundtrip_laws.specs.Run.{CommandBack}

-- a command that is to be sent
pub record Request : Type 0 where
  pub class : ℕ
  pub instruction : ℕ
  pub p1 : ℕ
  pub p2 : ℕ
  pub «data» : List ℕ
  pub le : ℕ

-- a command, and the length of the buffer for its pieces
pub record Job : Type 0 where
  pub request : Request
  pub buffer : ℕ

-- the jobs that demand 3 is about: class with bit 0x10 clear and not 0xEF, at most 65,535 data bytes, Le 0 to 256, a
-- buffer of 10 bytes or more
pub record InScope (j : Job) : Type 0 where
  pub clear : chaining_bit j.request.class ≡ 0
  pub class : j.request.class ≡ 0xEF → ⊥
  pub few : length j.request.«data» ≤ 65535
  pub le : j.request.le ≤ 256
  pub ten : 10 ≤ j.buffer

-- the data of a job fit in a room
abbrev pub HasRoom : List ℕ → Job → Type 0
HasRoom room j = length j.request.«data» ≤ length room

-- the pieces of a command for a buffer of m bytes, in short form
abbrev pub pieces_for : Request → ℕ → List (List ℕ)
pieces_for w m = pieces_of (short_of w.class w.instruction w.p1 w.p2 w.le) w.«data» m

-- the pieces of a job
abbrev pub pieces : Job → List (List ℕ)
pieces j = pieces_for j.request j.buffer

-- the pieces of all jobs, in order
abbrev pub stream : List Job → List (List ℕ)
stream js = flat_map pieces js

-- a command as it is given back: header, data and Le are those of the request, with the extended flag x
abbrev pub command_back : Request → Bool → CommandBack
command_back w x =
    record {
      command =
          record {
            class = record { cla = w.class };
            instruction = w.instruction;
            p1 = w.p1;
            p2 = w.p2;
            len = length w.«data»;
            le = w.le;
            extended = x;
          };
      «data» = w.«data»;
    }

-- the command of a job as it is given back: extended if it had several pieces (rule 5.6)
abbrev pub command_back_to : Job → CommandBack
command_back_to j = command_back j.request (ltb 1 (length (pieces j)))

-- the replies to the pieces of a job: more to all but the last, the command to the last
unfoldable pub replies_to : Job → List (Reply (Option CommandBack))
replies_to j = replicate (length (pieces j) - 1) (ok none) ++ (ok (some (command_back_to j)) ∷ [])

-- the replies to the pieces of all jobs, in order
abbrev pub all_replies : List Job → List (Reply (Option CommandBack))
all_replies js = flat_map replies_to js

-- the room after all jobs: the data of each command are written from its beginning, over those of the commands before
unfoldable pub room_after : List Job → List ℕ → List ℕ
room_after [] room = room
room_after (j ∷ js) room = room_after js (over j.request.«data» room)
