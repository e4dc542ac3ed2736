-- Laws of runs: of one response, and of lists of responses one after the other.
use Prim.Native.Nat.{ℕ, suc}
use mathlib.Core.Path.{◌≡◌, refl, sym, ap, ◌∙◌}
use mathlib.Core.List.{List, [], ◌∷◌, ◌++◌, append-nil}
use native.Mathlib.Omega.{arith}
use lib.ListN.{length}
use Rattle.std.specs.Prelude.{Ok, Err}
use Rattle.basis.specs.Reply.{Reply, ok, refused}
use Rattle.basis.specs.Refusal.{refusal_number}
use Rattle.basis.specs.declared.refusal.Refusal.{Refusal}
use Rattle.response.specs.declared.Response.{Response}
use Rattle.collect.specs.Collect.{Going, send, done, step_of, step_room, StepIs}
use Rattle.collect.specs.declared.Collection.{Collection}
use Rattle.collect.specs.declared.Step.TheVariants as step
use Rattle.collect_laws.specs.Run.{stands_after, Run, reply_then, run_from, run}
use Rattle.collect.proofs.Steps.{refused_kept}

pub run_none : (g : Going) (room : List ℕ) → run_from g room [] ≡ record { replies = []; stands = g; room = room }
unfolding run_from
run_none g room = refl

-- after the end no response is looked at (rule 14.4)
pub run_done : (r : Response) (room : List ℕ) (ss : List (List ℕ))
    → run_from (done r) room ss ≡ record { replies = []; stands = done r; room = room }
unfolding run_from
run_done r room [] = refl
run_done r room (s ∷ ss) = refl

-- a first response with a known reply and room
pub run_first : (c : Collection) (room s : List ℕ) (ss : List (List ℕ)) (x : Reply Going) (after : List ℕ) → step_of c s (length room) ≡ x
    → step_room c s room ≡ after → run c room (s ∷ ss) ≡ reply_then x (run_from (stands_after c x) after ss)
unfolding run_from
run_first c room s ss x after e f = λ i. reply_then (e i) (run_from (stands_after c (e i)) (f i) ss)

pub run_refused : (c : Collection) (room s : List ℕ) (ss : List (List ℕ)) (k : ℕ) → step_of c s (length room) ≡ refused k
    → run c room (s ∷ ss) ≡ reply_then (refused k) (run c room ss)
run_refused c room s ss k e = run_first c room s ss (refused k) room e (refused_kept c s room k e)

-- a run is what a caller of `step` gets, response after response, by its promise: he goes on with the state that it
-- answers, or is done, or keeps the state and the room that he had
module _ (c : Collection) (room s : List ℕ) (ss : List (List ℕ)) where
  pub run_called_send : (after : List ℕ) (x : Collection) → StepIs c s room (Ok (step.Send x)) after
      → run c room (s ∷ ss) ≡ record {
        replies = ok (send x) ∷ (run x after ss).replies;
        stands = (run x after ss).stands;
        room = (run x after ss).room;
      }
  run_called_send after x h = run_first c room s ss (ok (send x)) after (sym h.reply) (sym h.buffer)

  pub run_called_done : (after : List ℕ) (r : Response) → StepIs c s room (Ok (step.Done r)) after
      → run c room (s ∷ ss) ≡ record { replies = ok (done r) ∷ []; stands = done r; room = after }
  run_called_done after r h =
      run_first c room s ss (ok (done r)) after (sym h.reply) (sym h.buffer)
      ∙ ap (reply_then (ok (done r))) (run_done r after ss)

  pub run_called_refused : (after : List ℕ) (k : Refusal) → StepIs c s room (Err k) after
      → (after ≡ room) × (run c room (s ∷ ss) ≡ record {
        replies = refused (refusal_number k) ∷ (run c room ss).replies;
        stands = (run c room ss).stands;
        room = (run c room ss).room;
      })
  run_called_refused after k h =
      (h.buffer ∙ refused_kept c s room (refusal_number k) (sym h.reply), run_refused c room s ss (refusal_number k) (sym h.reply))

-- a run, and another after it
abbrev pub then : Run → Run → Run
then x y = record { replies = x.replies ++ y.replies; stands = y.stands; room = y.room }

pub run_append : (g : Going) (room : List ℕ) (ss ts : List (List ℕ))
    → run_from g room (ss ++ ts) ≡ then (run_from g room ss) (run_from (run_from g room ss).stands (run_from g room ss).room ts)
unfolding run_from
run_append g room [] ts = refl
run_append (done r) room (s ∷ ss) ts = sym (run_done r room ts)
run_append (send c) room (s ∷ ss) ts =
    let x = step_of c s (length room) in
    ap (reply_then x) (run_append (stands_after c x) (step_room c s room) ss ts)

-- what comes after the end changes nothing, and has no reply
pub after_the_end : (g : Going) (room : List ℕ) (ss ts : List (List ℕ)) (r : Response) → (run_from g room ss).stands ≡ done r
    → run_from g room (ss ++ ts) ≡ run_from g room ss
after_the_end g room ss ts r e =
    let x = run_from g room ss in
    run_append g room ss ts
    ∙ ap (λ g. then x (run_from g x.room ts)) e
    ∙ ap (then x) (run_done r x.room ts)
    ∙ (λ i. record { replies = append-nil x.replies i; stands = sym e i; room = x.room })

pub done_not_going : (r : Response) (c : Collection) → done r ≡ send c → ⊥
done_not_going r c e = let z : ◌≡◌ {A = ℕ} 0 1 = cc in omega arith

-- as long as it goes on, there is one reply for each response
pub run_replies : (g : Going) (room : List ℕ) (ss : List (List ℕ)) (c : Collection) → (run_from g room ss).stands ≡ send c
    → length (run_from g room ss).replies ≡ length ss
unfolding run_from
run_replies g room [] c e = refl
run_replies (done r) room (s ∷ ss) c e = absurd (done_not_going r c e)
run_replies (send d) room (s ∷ ss) c e =
    ap suc (run_replies (stands_after d (step_of d s (length room))) (step_room d s room) ss c e)
