-- Pieces joined in a lent room: the reply to each piece, the state after it and the room after it. Rules 5.1 to 5.9,
-- 1.17 and 1.18. The state of a reassembler is the open chain, with its header and length, or none.
use Rattle.std.specs.Prelude.{ℕ, ◌≡◌, Bool, true, false, cond, List, eqb, length, take, Some, None, Result, Ok, Err}
use Rattle.std.specs.Prelude as std
use Rattle.std.specs.Option.{option_map_or}
use Rattle.std.proofs.Math.Option.{Option, none, some}
use Rattle.basis.specs.Reply.{Reply, ok, refused}
use Rattle.basis.specs.Refusal.{refusal_number, as_option}
use Rattle.basis.specs.declared.refusal.Refusal.{Refusal}
use Rattle.basis.specs.Over.{over_at}
use Rattle.class.specs.Chain.{chaining_bit, chained}
use Rattle.class.specs.declared.Class.{Class}
use Rattle.class.specs.declared.Reading.TheVariants.{Crate}
use Rattle.command.specs.Command.{parse, data_in}
use Rattle.command.specs.Owned.{taken_of, extend_of}
use Rattle.command.specs.declared.CommandView.{CommandView}
use Rattle.command.specs.declared.owned.Command.{Command}
use Rattle.reassembler.specs.declared.OpenChain.{OpenChain}
use Rattle.reassembler.specs.declared.Reassembler.{Reassembler}
use Rattle.reassembler.specs.declared.Joined.{Joined}

-- no chain is open
abbrev pub closed : Reassembler
closed = record { «open» = None }

-- this chain is open
abbrev pub open_with : OpenChain → Reassembler
open_with h = record { «open» = Some h }

-- two classes are the same apart from bit 0x10: with the bit set in both they are equal (rule 5.2)
unfoldable pub same_class : Class → Class → Bool
same_class c d = eqb (chained c.cla) (chained d.cla)

-- a piece continues an open chain: class apart from bit 0x10, instruction, P1 and P2 equal the first piece's (rule 5.2)
unfoldable pub continues_open : OpenChain → CommandView → Bool
continues_open h v =
    cond (same_class h.class v.class)
    (cond (eqb h.instruction v.instruction) (cond (eqb h.p1 v.p1) (eqb h.p2 v.p2) false) false) false

-- the same as a statement, for theorems about headers
pub record SameHeader (h : OpenChain) (v : CommandView) : Type 0 where
  pub class : chained h.class.cla ≡ chained v.class.cla
  pub instruction : h.instruction ≡ v.instruction
  pub p1 : h.p1 ≡ v.p1
  pub p2 : h.p2 ≡ v.p2

-- a piece may be joined in this state: any piece if no chain is open (rule 5.2)
abbrev pub continues : Reassembler → CommandView → Bool
continues r v = option_map_or (λ h. continues_open h v) r.«open» true

-- how many bytes of the room are held: none if no chain is open, so the next piece starts at the beginning (rule 5.5)
abbrev pub held_len : Reassembler → ℕ
held_len r = option_map_or (λ h. h.len) r.«open» 0

-- extended is the piece's own flag for a single piece, true for several (rule 5.6)
abbrev pub extended_in : Reassembler → CommandView → Bool
extended_in r v = option_map_or (λ h. true) r.«open» v.extended

-- the command with n joined bytes: header and Le are this piece's (rule 5.5)
abbrev pub command_in : Reassembler → CommandView → ℕ → Command
command_in r v n = taken_of v n (extended_in r v)

-- the joined length, for n data bytes of this piece and a room of m bytes: 17 is tested before 18 (rules 5.2 and 5.3)
unfoldable pub length_of : Reassembler → CommandView → ℕ → ℕ → Reply ℕ
length_of r v n m = cond (continues r v) (extend_of (held_len r) n m) (refused 17)

-- the chain that is open after a piece: the piece's header and how many bytes are held; no Le is kept (rule 5.7)
abbrev pub chain_after : CommandView → ℕ → OpenChain
chain_after v n = record { class = v.class; instruction = v.instruction; p1 = v.p1; p2 = v.p2; len = n }

-- the answer, when the data are joined. Bit 0x10 set: more (none; rule 5.4). Clear: the command (rule 5.5)
unfoldable pub answer_of : CommandView → Command → Option Command
answer_of v c = cond (eqb (chaining_bit v.class.cla) 1) none (some c)

-- the state, when the data are joined. Bit 0x10 set: the chain is open (rule 5.4). Clear: it is closed (rule 5.5)
unfoldable pub state_of : CommandView → ℕ → Reassembler
state_of v n = cond (eqb (chaining_bit v.class.cla) 1) (open_with (chain_after v n)) closed

-- what a piece comes to: the reply, and the state and the room after it
pub record Outcome : Type 0 where
  pub reply : Reply (Option Command)
  pub state : Reassembler
  pub room : List ℕ

-- a refusal changes neither the state nor the room (rule 1.25)
abbrev pub refused_of : Reassembler → List ℕ → ℕ → Outcome
refused_of r room k = record { reply = refused k; state = r; room = room }

-- data d of a piece go into the room after those held (rule 5.3); room bytes past them stay (rule 5.9)
abbrev pub taken_in : Reassembler → List ℕ → CommandView → List ℕ → Reply ℕ → Outcome
taken_in r room v d (ok n) = record { reply = ok (answer_of v (command_in r v n)); state = state_of v n; room = over_at (held_len r) d room }
taken_in r room v d (refused k) = refused_of r room k

-- a piece that was parsed as v, with data d
abbrev pub view_in : Reassembler → List ℕ → CommandView → List ℕ → Outcome
view_in r room v d = taken_in r room v d (length_of r v (length d) (length room))

-- a piece s, by what the parser says of it: its refusals are handed on (rule 5.1)
abbrev pub parsed_in : Reassembler → List ℕ → List ℕ → Reply CommandView → Outcome
parsed_in r room s (ok v) = view_in r room v (data_in s (ok v))
parsed_in r room s (refused k) = refused_of r room k

-- a piece s, parsed in the crate reading (rule 5.1)
unfoldable pub join_of : Reassembler → List ℕ → List ℕ → Outcome
join_of r room s = parsed_in r room s (parse Crate s)

-- the answer of the code as a reply: `none` stands for more
abbrev pub as_reply : Result (std.Option Command) Refusal → Reply (Option Command)
as_reply (Ok x) = ok (as_option x)
as_reply (Err k) = refused (refusal_number k)

-- an answer and a state that have this reply and this state
pub record Says (y : Reply (Option Command)) (r : Reassembler) (x : Joined) : Type 0 where
  pub reply : as_reply x.answer ≡ y
  pub state : x.state ≡ r

-- an answer, a state and a room at exit that have this outcome
pub record Joins (o : Outcome) (x : Joined) (after : List ℕ) : Type 0 where
  pub says : Says o.reply o.state x
  pub buffer : after ≡ o.room

-- the promise of `join`
abbrev pub JoinIs : Reassembler → List ℕ → List ℕ → Joined → List ℕ → Type 0
JoinIs r s room x after = Joins (join_of r room s) x after

-- the answer and the state after a piece, if a refusal leaves the state as it was
abbrev pub or_unchanged : Reassembler → Result Joined Refusal → Joined
or_unchanged r (Ok x) = x
or_unchanged r (Err k) = record { answer = Err k; state = r }

-- the promises of `new` and `reset`: no chain is open (rule 5.8)
abbrev pub ClosedIs : Reassembler → Type 0
ClosedIs x = x ≡ closed

-- the promise of `data`: the joined data are the front of the room, as long as the command says (rule 5.9)
abbrev pub DataIs : Command → List ℕ → List ℕ → Type 0
DataIs c room x = x ≡ take c.len room
