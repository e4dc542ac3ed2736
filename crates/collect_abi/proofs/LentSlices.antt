-- What starting, taking a response and copying the data leave in the lent slices, case by case; and what is to be sent,
-- as the command of a builder.
use Prim.Native.Nat.{ℕ, ◌≤◌, ◌<◌}
use mathlib.Core.Path.{◌≡◌, refl, sym, ap, ◌∙◌, subst}
use mathlib.Core.Bool.{Bool, true, false, cond}
use mathlib.Core.List.{List, [], ◌∷◌}
use native.Mathlib.Omega.{arith}
use borrow.Author.Tests.{lt-ltb, le-ltb}
use lib.Dec.{eqb}
use lib.ListN.{length, get_or}
use Rattle.std.specs.Prelude.{Result}
use Rattle.basis.specs.declared.refusal.Refusal.{Refusal}
use Rattle.basis.specs.Reply.{Reply, ok, refused, then}
use Rattle.builder.specs.Bytes.{SerializeIntoIs}
use Rattle.builder.specs.declared.CommandBuilder.{CommandBuilder}
use Rattle.collect.specs.Collect.{Going, step_of, step_room, as_reply, StartIs, StepIs, WriteIs}
use Rattle.collect.specs.declared.Sent.{Sent}
use Rattle.collect.specs.declared.Sent.TheVariants.{Command, GetResponse}
use Rattle.collect.specs.declared.Collection.{Collection}
use Rattle.collect.specs.declared.Step.{Step}
use Rattle.collect.proofs.Steps.{From22, from_22, refused_kept}
use Rattle.abi.specs.Answers.{too_short, room_after, RefusalStatusIs, NumbersWritten}
use Rattle.abi.specs.Builders.{builder_by_numbers}
use Rattle.abi.proofs.AnswerLaws.{refusal_fitted, refusal_written}
use Rattle.collect_abi.specs.Numbers.{builder_numbers, sent_numbers, state_numbers, data_by_kind, sent_by_kind}
use Rattle.collect_abi.specs.Numbers.{state_by_numbers, sending_numbers, stepped_reply, ResponseTaken}

-- a state has eight numbers, and an answer that goes on twelve
eight_by : (s : Sent) (n : ℕ) → length (sent_numbers s n) ≡ 8
unfolding builder_numbers
eight_by (Command b) n = refl
eight_by (GetResponse b) n = refl

pub eight_numbers : (c : Collection) → length (state_numbers c) ≡ 8
eight_numbers c = eight_by c.sent c.len

-- numbers vs written are the m numbers ws
pub numbers_of : (m : ℕ) (vs ws out : List ℕ) (r : ℕ) (after : List ℕ) → vs ≡ ws → length ws ≡ m
    → NumbersWritten (length vs) (ok vs) out r after → NumbersWritten m (ok ws) out r after
numbers_of m vs ws out r after e n a =
    subst (λ k. NumbersWritten k (ok ws) out r after) n (subst (λ z. NumbersWritten (length z) (ok z) out r after) e a)

-- the state after a command was sent, from a builder that was made
pub start_row : (x : Reply CommandBuilder) (b : CommandBuilder) (c : Collection) (vs out : List ℕ) (r : ℕ) (after : List ℕ) → x ≡ ok b
    → StartIs b c → vs ≡ state_numbers c → NumbersWritten (length vs) (ok vs) out r after
    → NumbersWritten 8 (then x (λ b. ok (state_numbers (record { sent = Command b; len = 0 })))) out r after
start_row x b c vs out r after f g e a =
    let s : Collection = record { sent = Command b; len = 0 } in
    rw f (numbers_of 8 vs (state_numbers s) out r after (e ∙ ap state_numbers g) (eight_numbers s) a)

-- the row of an answer that goes on, from the numbers of its state one by one
row_by : (s : Sent) (n : ℕ)
    → let vs = sent_numbers s n in
    get_or vs 0 0 ∷ get_or vs 1 0 ∷ get_or vs 2 0 ∷ get_or vs 3 0 ∷ get_or vs 4 0 ∷ get_or vs 5 0 ∷ get_or vs 6 0 ∷ get_or vs 7 0 ∷ [] ≡ vs
unfolding builder_numbers
row_by (Command b) n = refl
row_by (GetResponse b) n = refl

pub sending_row : (c : Collection) (vs : List ℕ) → vs ≡ state_numbers c
    → 0 ∷ 0 ∷ 0 ∷ 0 ∷ get_or vs 0 0 ∷ get_or vs 1 0 ∷ get_or vs 2 0 ∷ get_or vs 3 0 ∷ get_or vs 4 0 ∷ get_or vs 5 0 ∷ get_or vs 6 0 ∷ get_or vs 7 0 ∷ []
    ≡ sending_numbers c
unfolding sending_numbers
sending_row c vs e = rw e (ap (λ (l : List ℕ). 0 ∷ 0 ∷ 0 ∷ 0 ∷ l) (row_by c.sent c.len))

-- the state by numbers, from a builder without data
module _ (k c i p q e m n : ℕ) where
  pub state_refused : (j : ℕ) → builder_by_numbers c i p q e m [] ≡ refused j → state_by_numbers k c i p q e m n ≡ refused j
  unfolding state_by_numbers
  state_refused j f = rw f

  pub state_is : (b : CommandBuilder) (s : Sent) → builder_by_numbers c i p q e m [] ≡ ok b → s ≡ sent_by_kind k b
      → state_by_numbers k c i p q e m n ≡ ok (record { sent = s; len = n })
  unfolding state_by_numbers
  state_is b s f g = rw f (ap (λ s. ok (record { sent = s; len = n })) (sym g))

-- what is to be sent is written as the command of its builder, with the data that go with its kind
serialized_by : (w : Bool) (b : CommandBuilder) (d l : List ℕ) (at : ℕ) (y : Result ℕ Refusal) (after : List ℕ)
    → WriteIs (record { sent = cond w (Command b) (GetResponse b); len = 0 }) d l at y after
    → SerializeIntoIs b (cond w d []) l at y after
serialized_by true b d l at y after h = h
serialized_by false b d l at y after h = h

pub sent_serialized : (k : ℕ) (b : CommandBuilder) (s : Sent) (d l : List ℕ) (at : ℕ) (y : Result ℕ Refusal) (after : List ℕ)
    → s ≡ sent_by_kind k b → WriteIs (record { sent = s; len = 0 }) d l at y after
    → SerializeIntoIs b (data_by_kind k d) l at y after
sent_serialized k b s d l at y after e h =
    serialized_by (eqb k 0) b d l at y after (subst (λ s. WriteIs (record { sent = s; len = 0 }) d l at y after) e h)

-- 16 is a smaller number than 22 and 23 (rule 1.22)
short_16 : (x : Reply Going) → From22 x → too_short (stepped_reply x) ≡ refused 16
short_16 (ok g) h = refl
short_16 (refused k) h = rw (lt-ltb 16 k (omega arith))

-- a refusal leaves the room
room_kept : (x : Reply Going) (after room : List ℕ) → ((k : ℕ) → x ≡ refused k → after ≡ room)
    → after ≡ room_after (stepped_reply x) after room
room_kept (ok g) after room h = refl
room_kept (refused k) after room h = h k refl

-- a response in the state x: the numbers stand for no state; they do not fit; it is taken
module _ (x : Reply Collection) (s room out : List ℕ) where
  pub no_state : (k r : ℕ) → x ≡ refused k → RefusalStatusIs k (length out) 12 r → ResponseTaken x s room out r room out
  no_state k r f g = record { says = rw f (refusal_written 12 k out r g); bytes = rw (f, refusal_fitted) }

  module _ (c : Collection) (f : x ≡ ok c) where
    pub few_numbers : length out < 12 → ResponseTaken x s room out 16 room out
    few_numbers h =
        let n = lt-ltb (length out) 12 h in
        let k = short_16 (step_of c s (length room)) (from_22 c s (length room)) in
        record { says = record { reply = rw (f, n, k); row = rw (f, n, k) }; bytes = rw (f, n, k) }

    pub response_taken : 12 ≤ length out → (y : Result Step Refusal) (room' : List ℕ) → StepIs c s room y room' → (r : ℕ) (out' : List ℕ)
        → NumbersWritten 12 (stepped_reply (as_reply y)) out r out' → ResponseTaken x s room out r room' out'
    response_taken h y room' t r out' a =
        let n = le-ltb (length out) 12 h in
        let kept = room_kept (step_of c s (length room)) (step_room c s room) room (λ k. refused_kept c s room k) in
        record { says = rw (f, ← t.reply) a; bytes = rw (f, n) (t.buffer ∙ kept) }
