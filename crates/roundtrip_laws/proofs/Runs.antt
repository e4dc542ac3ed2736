-- Laws of runs: of one piece, and of lists of pieces one after the other.
use Prim.Native.Nat.{ℕ, suc}
use mathlib.Core.Path.{◌≡◌, refl, sym, ap, ◌∙◌}
use mathlib.Core.List.{List, [], ◌∷◌, ◌++◌}
use mathlib.Core.Option.{some}
use lib.ListN.{length}
use Rattle.basis.specs.Reply.{ok}
use Rattle.command.specs.declared.owned.Command.{Command}
use Rattle.reassembler.specs.Join.{Outcome, join_of, as_reply, JoinIs, DataIs}
use Rattle.reassembler.specs.declared.Joined.{Joined}
use Rattle.reassembler.specs.declared.Reassembler.{Reassembler}
use Rattle.roundtrip_laws.specs.Run.{reply_in, reply_to, Run, reply_then, run}

pub run_none : (r : Reassembler) (room : List ℕ) → run r room [] ≡ record { replies = []; state = r; room = room }
unfolding run
run_none r room = refl

-- a first piece with a known outcome
pub run_first : (r : Reassembler) (room p : List ℕ) (ps : List (List ℕ)) (o : Outcome) → join_of r room p ≡ o
    → run r room (p ∷ ps) ≡ reply_then (reply_to o) (run o.state o.room ps)
unfolding run
run_first r room p ps o e = ap (λ (o : Outcome). reply_then (reply_to o) (run o.state o.room ps)) e

-- a run is what a caller of `join` gets, piece after piece, by the promise of `join`, and by that of `data` if the
-- answer is a command
pub run_called : (r : Reassembler) (room p : List ℕ) (ps : List (List ℕ)) (x : Joined) (after : List ℕ) → JoinIs r p room x after
    → run r room (p ∷ ps) ≡ reply_then (reply_in (as_reply x.answer) after) (run x.state after ps)
run_called r room p ps x after h =
    run_first r room p ps (record { reply = as_reply x.answer; state = x.state; room = after })
    (λ i. record { reply = sym h.says.reply i; state = sym h.says.state i; room = sym h.buffer i })

pub reply_data : (c : Command) (room d : List ℕ) → DataIs c room d
    → reply_in (ok (some c)) room ≡ ok (some (record { command = c; «data» = d }))
reply_data c room d h = ap (λ l. ok (some (record { command = c; «data» = l }))) (sym h)

-- a run, and another after it
abbrev pub then : Run → Run → Run
then x y = record { replies = x.replies ++ y.replies; state = y.state; room = y.room }

pub run_append : (r : Reassembler) (room : List ℕ) (ps qs : List (List ℕ))
    → run r room (ps ++ qs) ≡ then (run r room ps) (run (run r room ps).state (run r room ps).room qs)
unfolding run
run_append r room [] qs = refl
run_append r room (p ∷ ps) qs =
    let o = join_of r room p in
    ap (reply_then (reply_to o)) (run_append o.state o.room ps qs)

pub run_after : (r : Reassembler) (room : List ℕ) (ps qs : List (List ℕ)) (x : Run) → run r room ps ≡ x
    → run r room (ps ++ qs) ≡ then x (run x.state x.room qs)
run_after r room ps qs x e = run_append r room ps qs ∙ ap (λ (x : Run). then x (run x.state x.room qs)) e

-- one reply for each piece
pub run_replies : (r : Reassembler) (room : List ℕ) (ps : List (List ℕ)) → length (run r room ps).replies ≡ length ps
unfolding run
run_replies r room [] = refl
run_replies r room (p ∷ ps) = let o = join_of r room p in ap suc (run_replies o.state o.room ps)
