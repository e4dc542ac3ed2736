-- Every record in any chunks has its answers: there is a session for all chunks, from every state (rule 18.1). So the
-- theorems about sessions speak of every division.
use Prim.Native.Nat.{ℕ, zero, suc, ◌≤◌}
use mathlib.Core.Path.{◌≡◌, refl, sym, ap, subst, ◌∙◌}
use mathlib.Core.List.{List, [], ◌∷◌, cons-ne-nil}
use mathlib.Core.Option.{none}
use native.Mathlib.Decide.{dec_le}
use native.Mathlib.Omega.{arith}
use lib.ListN.{length, drop, length-drop}
use lib.ListN.{take as bytes_taken}
use Rattle.std.specs.Prelude.{Result, Ok, Err}
use Rattle.tlv.specs.declared.stop.Stop.{Stop}
use Rattle.tlv.specs.declared.stop.Stop.TheVariants as stop
use Rattle.tlv_chunks.specs.Header.{byte_of}
use Rattle.tlv_chunks.specs.Run.{Event, head, end, Step, header_byte, step, run}
use Rattle.tlv_chunks.specs.Call.{Call, after_byte, up_to_reply, take_of, events_of, NewIs, TakeIs, CloseIs}
use Rattle.tlv_chunks.specs.declared.header.HeaderByte.{HeaderByte}
use Rattle.tlv_chunks.specs.declared.header.HeaderByte.TheVariants as byte
use Rattle.tlv_chunks.specs.declared.walk.ChunkWalk.{ChunkWalk}
use Rattle.tlv_chunks.specs.declared.walk.ChunkWalk.TheVariants.{Boundary, Header, Value, Stopped}
use Rattle.tlv_chunks.specs.declared.walk.TakeChunk.{TakeChunk}
use Rattle.tlv_chunks.specs.declared.walk.TakeChunk.TheVariants as answer
use Rattle.tlv_chunks.specs.declared.walk.ChunkTaken.{ChunkTaken}
use Rattle.tlv_chunks_laws.specs.Session.{stopped_by, LastAnswer, Answered, state_after, Session}
use Rattle.tlv_chunks_laws.proofs.Runs.{run_nothing}
use Rattle.tlv_chunks_laws.proofs.Answers.{taken_tells, taken_within}
use Rattle.tlv_chunks_laws.proofs.Stopped.{repeats_11, repeats_12, take_after_11, take_after_12}

-- an answer that says this
abbrev Said : List Event → Type 0
Said ts = (a : Result TakeChunk Stop) × (events_of a ≡ ts)

header_said : (x : Result HeaderByte Stop) → Said (header_byte x).tells
header_said (Ok (byte.More g)) = (Ok answer.NeedMore, refl)
header_said (Ok (byte.Complete t zero)) = (Ok (answer.Empty t), refl)
header_said (Ok (byte.Complete t (suc n))) = (Ok (answer.Head t (suc n)), refl)
header_said (Err e) = (Err e, refl)

step_said : (w : ChunkWalk) (b : ℕ) → Said (step w b).tells
unfolding step
step_said Boundary b = (Ok answer.NeedMore, refl)
step_said (Header h) b = header_said (byte_of h b)
step_said (Value zero) b = (Ok answer.ValueEnd, refl)
step_said (Value (suc n)) b = (Ok answer.NeedMore, refl)
step_said (Stopped e) b = (Ok answer.NeedMore, refl)

after_said : (ts : List Event) (v : ChunkWalk) (c : Call) → Said ts → Said c.tells → Said (after_byte ts v c).tells
after_said [] v c a d = d
after_said (e ∷ ts) v c a d = a

up_said : (w : ChunkWalk) (s : List ℕ) → Said (up_to_reply w s).tells
unfolding up_to_reply
up_said w [] = (Ok answer.NeedMore, refl)
up_said w (b ∷ s) = let x = step w b in after_said x.tells x.walk (up_to_reply x.walk s) (step_said w b) (up_said x.walk s)

take_said : (w : ChunkWalk) (s : List ℕ) → Said (take_of w s).tells
unfolding take_of
take_said Boundary s = up_said Boundary s
take_said (Header h) s = up_said (Header h) s
take_said (Value n) s = up_said (Value n) s
take_said (Stopped e) s = (Err e, refl)

pub answer_there : (w : ChunkWalk) (s : List ℕ) → (x : ChunkTaken) × TakeIs w s x
answer_there w s =
    let a = take_said w s in (
      record { answer = a.0; taken = (take_of w s).taken; walk = (take_of w s).walk },
      record { tells = a.1; taken = refl; walk = refl },
    )

-- an answer that leaves something of the chunk to be handed in has taken some of it
module _ (s : List ℕ) (x : ChunkTaken) (left : LastAnswer x.answer → ⊥) where
  tells_something : (a : Result TakeChunk Stop) → (LastAnswer a → ⊥) → events_of a ≡ [] → ⊥
  tells_something (Ok answer.NeedMore) n e = n tt
  tells_something (Ok (answer.Head t m)) n e = cons-ne-nil (head t m) [] e
  tells_something (Ok (answer.Empty t)) n e = cons-ne-nil (head t 0) (end ∷ []) e
  tells_something (Ok answer.ValueEnd) n e = cons-ne-nil end [] e
  tells_something (Err r) n e = n tt

  goes_on : (w : ChunkWalk) → stopped_by w ≡ none → TakeIs w s x → (1 ≤ x.taken) × (x.taken ≤ length s)
  goes_on w goes p =
      elim (dec_le 1 x.taken) [
        | yes h ↦ (h, taken_within w s x p)
        | no h ↦
            let zero-taken : x.taken ≡ 0 = omega (arith, h) in
            let run_none : run w (bytes_taken x.taken s) ≡ run w [] = ap (λ (k : ℕ). run w (bytes_taken k s)) zero-taken in
            absurd (tells_something x.answer left
            (ap (λ (r : Step). r.tells) (sym (taken_tells w s x p goes) ∙ run_none ∙ run_nothing w)))
      ]

  some_taken : (w : ChunkWalk) → TakeIs w s x → (1 ≤ x.taken) × (x.taken ≤ length s)
  some_taken Boundary p = goes_on Boundary refl p
  some_taken (Header h) p = goes_on (Header h) refl p
  some_taken (Value n) p = goes_on (Value n) refl p
  some_taken (Stopped stop.End) p = absurd (left (subst (λ (y : ChunkTaken). LastAnswer y.answer) (sym (take_after_11 x s p)) tt))
  some_taken (Stopped stop.Unreadable) p = absurd (left (subst (λ (y : ChunkTaken). LastAnswer y.answer) (sym (take_after_12 x s p)) tt))

-- the answers to one chunk
abbrev Answers : ChunkWalk → List ℕ → Type 0
Answers w s = (xs : List ChunkTaken) × Answered w s xs

one_more : (w : ChunkWalk) (s : List ℕ) (x : ChunkTaken) → TakeIs w s x → (xs : List ChunkTaken) → Answered x.walk (drop x.taken s) xs
    → Answers w s
one_more w s x p [] h = absurd h
one_more w s x p (y ∷ ys) h = (x ∷ y ∷ ys, (p, h))

by_last : (a : Result TakeChunk Stop) → {P : Type 0} → (LastAnswer a → P) → ((LastAnswer a → ⊥) → P) → P
by_last (Ok answer.NeedMore) h g = h tt
by_last (Ok (answer.Head t n)) h g = g (λ u. u)
by_last (Ok (answer.Empty t)) h g = g (λ u. u)
by_last (Ok answer.ValueEnd) h g = g (λ u. u)
by_last (Err e) h g = h tt

answers_in : (n : ℕ) (w : ChunkWalk) (s : List ℕ) → length s ≤ n → Answers w s
answers_in zero w s few =
    let x = answer_there w s in
    by_last x.0.answer (λ u. (x.0 ∷ [], (x.1, u))) (λ left. absurd (omega (arith, few, some_taken s x.0 left w x.1)))
answers_in (suc n) w s few =
    let x = answer_there w s in
    by_last x.0.answer (λ u. (x.0 ∷ [], (x.1, u))) (λ left.
    let taken = some_taken s x.0 left w x.1 in
    let rest = answers_in n x.0.walk (drop x.0.taken s) (omega (arith, few, taken, length-drop x.0.taken s)) in
    one_more w s x.0 x.1 rest.0 rest.1)

pub answers_there : (w : ChunkWalk) (s : List ℕ) → (xs : List ChunkTaken) × Answered w s xs
answers_there w s = answers_in (length s) w s (omega arith)

-- the answers to any chunks
pub session_there : (w : ChunkWalk) (ss : List (List ℕ)) → (xss : List (List ChunkTaken)) × Session w ss xss
session_there w [] = ([], tt)
session_there w (s ∷ ss) =
    let xs = answers_there w s in
    let rest = session_there (state_after w xs.0) ss in
    (xs.0 ∷ rest.0, (xs.1, rest.1))

-- a walk that `new` gives, and the answer to closing in every state
pub new_there : (w : ChunkWalk) × NewIs w
new_there = (Boundary, refl)

pub close_there : (w : ChunkWalk) → (y : ChunkTaken) × CloseIs w y
close_there Boundary = (repeats_11, record { tells = refl; taken = refl; walk = refl })
close_there (Header h) = (repeats_12, record { tells = refl; taken = refl; walk = refl })
close_there (Value n) = (repeats_12, record { tells = refl; taken = refl; walk = refl })
close_there (Stopped stop.End) = (repeats_11, record { tells = refl; taken = refl; walk = refl })
close_there (Stopped stop.Unreadable) = (repeats_12, record { tells = refl; taken = refl; walk = refl })
