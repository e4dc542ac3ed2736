-- What is replied to one more response, in a run that goes on: 22, 23, or how it then stands. Rules 14.4 to 14.6.
use Prim.Native.Nat.{ℕ, ◌+◌, ◌-◌, ◌≤◌, ◌<◌}
use mathlib.Core.Path.{◌≡◌, sym, ap, ◌∙◌}
use mathlib.Core.List.{List, [], ◌∷◌, ◌++◌}
use native.Mathlib.Omega.{arith}
use lib.ListN.{length}
use Rattle.basis.specs.Reply.{Reply, ok, refused}
use Rattle.builder.specs.declared.CommandBuilder.{CommandBuilder}
use Rattle.response.proofs.Splitting.{data_length}
use Rattle.collect.specs.Collect.{Going, send, step_of, StartIs}
use Rattle.collect.specs.declared.Sent.TheVariants.{Command}
use Rattle.collect.specs.declared.Collection.{Collection}
use Rattle.collect_laws.specs.Run.{Run, run_from, run}
use Rattle.collect_laws.specs.Accepted.{accepted, joined, statuses, AllAskMore}
use Rattle.collect_laws.specs.Sends.{sends, last_of}
use Rattle.collect_laws.proofs.Steps.{refused_22, refused_23, held}
use Rattle.collect_laws.proofs.Runs.{then, run_append}
use Rattle.collect_laws.proofs.Collected.{goes_on, never_above}

-- a run of one response
one_reply : (c : Collection) (room s : List ℕ) (x : Reply Going) → step_of c s (length room) ≡ x → (run c room (s ∷ [])).replies ≡ x ∷ []
unfolding run_from
one_reply c room s x e = ap (λ x. x ∷ []) e

one_held : (c : Collection) (room s : List ℕ) (g : Going) → step_of c s (length room) ≡ ok g
    → (run c room (s ∷ [])).replies ≡ ok (run c room (s ∷ [])).stands ∷ []
unfolding run_from
one_held c room s g e = rw e

module _ (b : CommandBuilder) (c : Collection) (begun : StartIs b c) (room : List ℕ) (ss : List (List ℕ))
    (more : AllAskMore (accepted (length room) ss)) (s : List ℕ) where
  -- the state that it goes on with, and the room
  state : Collection
  state =
      record {
        sent = last_of (Command b) (sends b (statuses (accepted (length room) ss)));
        len = length (joined (accepted (length room) ss));
      }

  size : length (run c room ss).room ≡ length room
  size = (never_above b c begun room ss).1

  one_more : run c room (ss ++ (s ∷ [])) ≡ then (run c room ss) (run state (run c room ss).room (s ∷ []))
  unfolding state
  one_more =
      let x = run c room ss in
      run_append (send c) room ss (s ∷ []) ∙ ap (λ g. then x (run_from g x.room (s ∷ []))) (goes_on b c begun room ss more)

  replied : (x : Reply Going) → step_of state s (length (run c room ss).room) ≡ x
      → (run c room (ss ++ (s ∷ []))).replies ≡ (run c room ss).replies ++ (x ∷ [])
  replied x e =
      ap (λ (r : Run). r.replies) one_more
      ∙ ap (λ rs. (run c room ss).replies ++ rs) (one_reply state (run c room ss).room s x e)

  -- 22: under two bytes
  pub replied_22 : length s < 2 → (run c room (ss ++ (s ∷ []))).replies ≡ (run c room ss).replies ++ (refused 22 ∷ [])
  replied_22 h = replied (refused 22) (refused_22 state s (length (run c room ss).room) h)

  -- 23: its data and those of the responses accepted before it exceed the room
  pub replied_23 : 2 ≤ length s → length room < length (joined (accepted (length room) ss)) + (length s - 2)
      → (run c room (ss ++ (s ∷ []))).replies ≡ (run c room ss).replies ++ (refused 23 ∷ [])
  unfolding state
  replied_23 two over =
      replied (refused 23) (refused_23 state s (length (run c room ss).room) two (omega (arith, over, size)))

  -- else how it then stands
  pub replied_ok : 2 ≤ length s → length (joined (accepted (length room) ss)) + (length s - 2) ≤ length room
      → (run c room (ss ++ (s ∷ []))).replies ≡ (run c room ss).replies ++ (ok (run c room (ss ++ (s ∷ []))).stands ∷ [])
  unfolding state
  replied_ok two fits =
      let x = run c room ss in
      let taken = held state s (length x.room) two (omega (arith, fits, size, data_length s)) in
      ap (λ (r : Run). r.replies) one_more
      ∙ ap (λ rs. x.replies ++ rs) (one_held state x.room s _ taken)
      ∙ ap (λ g. x.replies ++ (ok g ∷ [])) (sym (ap (λ (r : Run). r.stands) one_more))
