-- A run: pieces sent one after the other through a reassembler (rules 5.1 to 5.9).
use Rattle.std.specs.Prelude.{ℕ, List, [], ◌∷◌, take}
use Rattle.std.proofs.Math.Option.{Option, none, some}
use Rattle.basis.specs.Reply.{Reply, ok, refused}
use Rattle.command.specs.declared.owned.Command.{Command}
use Rattle.reassembler.specs.Join.{Outcome, join_of}
use Rattle.reassembler.specs.declared.Reassembler.{Reassembler}

-- a command that is given back, and its data: the front of the room, as long as the command says (rule 5.9)
pub record CommandBack : Type 0 where
  pub command : Command
  pub «data» : List ℕ

-- what a caller gets: more (none), a command with its data, or a refusal
abbrev pub reply_in : Reply (Option Command) → List ℕ → Reply (Option CommandBack)
reply_in (ok none) room = ok none
reply_in (ok (some c)) room = ok (some (record { command = c; «data» = take c.len room }))
reply_in (refused k) room = refused k

-- the same, of an outcome
abbrev pub reply_to : Outcome → Reply (Option CommandBack)
reply_to o = reply_in o.reply o.room

-- the replies to the pieces, one for each, and the state and the room after all of them
pub record Run : Type 0 where
  pub replies : List (Reply (Option CommandBack))
  pub state : Reassembler
  pub room : List ℕ

-- a reply, and the run after it
abbrev pub reply_then : Reply (Option CommandBack) → Run → Run
reply_then x r = record { replies = x ∷ r.replies; state = r.state; room = r.room }

-- the run of pieces that begins in the state r
unfoldable pub run : Reassembler → List ℕ → List (List ℕ) → Run
run r room [] = record { replies = []; state = r; room = room }
run r room (p ∷ ps) = reply_then (reply_to (join_of r room p)) (run (join_of r room p).state (join_of r room p).room ps)
