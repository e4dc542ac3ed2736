-- What each answer says of the bytes that were taken: they tell what is answered, and fewer tell nothing (rules 18.1 and
-- 18.4). The statements are over the promise of `take`.
use Prim.Native.Nat.{ℕ, zero, suc, ◌≤◌, ◌<◌}
use mathlib.Core.Path.{◌≡◌, refl, sym, ap, subst, ◌∙◌}
use mathlib.Core.List.{List, [], ◌∷◌, append-nil, cons-ne-nil}
use mathlib.Core.Option.{none}
use native.Mathlib.Omega.{arith}
use lib.ListN.{length, take}
use Rattle.std.specs.Prelude.{Ok}
use Rattle.tlv.specs.Stop.{stop_number}
use Rattle.tlv_chunks.specs.Run.{Event, refusal, Step, following, step, run}
use Rattle.tlv_chunks.specs.Call.{Call, after_byte, up_to_reply, repeated, take_of, events_of, call_of, TakeIs}
use Rattle.tlv_chunks.specs.declared.walk.ChunkWalk.{ChunkWalk}
use Rattle.tlv_chunks.specs.declared.walk.ChunkWalk.TheVariants.{Boundary, Header, Value, Stopped}
use Rattle.tlv_chunks.specs.declared.walk.TakeChunk.TheVariants as answer
use Rattle.tlv_chunks.specs.declared.walk.ChunkTaken.{ChunkTaken}
use Rattle.tlv_chunks.proofs.Calls.{call_said}
use Rattle.tlv_chunks_laws.specs.Session.{stopped_by}
use Rattle.tlv_chunks_laws.proofs.Runs.{none_some, run_nothing}

-- a call in the state w on the chunk s: fewer bytes than it takes tell nothing; if nothing is told all are taken, and never
-- more than there are
pub record Fewest (w : ChunkWalk) (s : List ℕ) (c : Call) : Type 0 where
  pub not_before : (k : ℕ) → k < c.taken → (run w (take k s)).tells ≡ []
  pub all : c.tells ≡ [] → c.taken ≡ length s
  pub within : c.taken ≤ length s

-- and the bytes taken tell what is told, and lead to the state
pub record Takes (w : ChunkWalk) (s : List ℕ) (c : Call) : Type 0 where
  pub run_of_taken : run w (take c.taken s) ≡ record { tells = c.tells; walk = c.walk }
  pub fewest : Fewest w s c

-- one byte, and then a call on the others
after_byte_lem : (w v : ChunkWalk) (b : ℕ) (s : List ℕ) (ts : List Event) (c : Call) → ((u : List ℕ) → run w (b ∷ u) ≡ following ts (run v u))
    → Takes v s c → Takes w (b ∷ s) (after_byte ts v c)
after_byte_lem w v b s [] c f t =
    let few = t.fewest in
    record {
      run_of_taken = f (take c.taken s) ∙ t.run_of_taken;
      fewest = record {
        not_before = λ k. elim k as (λ i. i < suc c.taken → (run w (take i (b ∷ s))).tells ≡ []) [
          | zero ↦ λ h. ap (λ (r : Step). r.tells) (run_nothing w)
          | suc n ↦ λ h. ap (λ (r : Step). r.tells) (f (take n s)) ∙ few.not_before n (omega (arith, h))
        ];
        all = λ e. ap suc (few.all e);
        within = omega (arith, few.within);
      };
    }
after_byte_lem w v b s (e ∷ ts) c f t =
    record {
      run_of_taken = f [] ∙ ap (following (e ∷ ts)) (run_nothing v) ∙ (λ i. record { tells = append-nil (e ∷ ts) i; walk = v });
      fewest = record {
        not_before = λ k. elim k as (λ i. i < 1 → (run w (take i (b ∷ s))).tells ≡ []) [ zero ↦ λ h. ap (λ (r : Step). r.tells) (run_nothing w) | suc n ↦ λ h. absurd (omega (arith, h)) ];
        all = λ h. absurd (cons-ne-nil e ts h);
        within = omega arith;
      };
    }

up_to_reply_lem : (w : ChunkWalk) (s : List ℕ) → Takes w s (up_to_reply w s)
unfolding run up_to_reply
up_to_reply_lem w [] =
    record { run_of_taken = refl; fewest = record { not_before = λ k h. absurd (omega (arith, h)); all = λ _. refl; within = omega arith } }
up_to_reply_lem w (b ∷ s) =
    let x = step w b in
    after_byte_lem w x.walk b s x.tells (up_to_reply x.walk s) (λ u. refl) (up_to_reply_lem x.walk s)

-- every call, and every call of a walk that had not stopped
none_taken : (w v : ChunkWalk) (s : List ℕ) (k : ℕ) → Fewest w s (repeated k v)
none_taken w v s k =
    record {
      not_before = λ j h. absurd (omega (arith, h));
      all = λ e. absurd (cons-ne-nil (refusal k) [] e);
      within = omega arith;
    }

take_fewest : (w : ChunkWalk) (s : List ℕ) → Fewest w s (take_of w s)
unfolding take_of
take_fewest Boundary s = (up_to_reply_lem Boundary s).fewest
take_fewest (Header h) s = (up_to_reply_lem (Header h) s).fewest
take_fewest (Value n) s = (up_to_reply_lem (Value n) s).fewest
take_fewest (Stopped r) s = none_taken (Stopped r) (Stopped r) s (stop_number r)

take_runs : (w : ChunkWalk) (s : List ℕ) → stopped_by w ≡ none → let c = take_of w s in
    run w (take c.taken s) ≡ record { tells = c.tells; walk = c.walk }
unfolding take_of
take_runs Boundary s e = (up_to_reply_lem Boundary s).run_of_taken
take_runs (Header h) s e = (up_to_reply_lem (Header h) s).run_of_taken
take_runs (Value n) s e = (up_to_reply_lem (Value n) s).run_of_taken
take_runs (Stopped r) s e = none_some (stop_number r) (sym e)

-- every answer
module _ (w : ChunkWalk) (s : List ℕ) (x : ChunkTaken) (p : TakeIs w s x) where
  answer_fewest : Fewest w s (call_of x)
  answer_fewest = subst (Fewest w s) (call_said (take_of w s) x p) (take_fewest w s)

  -- fewer bytes than were taken tell nothing
  pub fewer_tell_nothing : (k : ℕ) → k < x.taken → (run w (take k s)).tells ≡ []
  fewer_tell_nothing = answer_fewest.not_before

  -- if more bytes are needed all were taken
  pub need_more_all_taken : x.answer ≡ Ok answer.NeedMore → x.taken ≡ length s
  need_more_all_taken e = answer_fewest.all (ap events_of e)

  pub taken_within : x.taken ≤ length s
  taken_within = answer_fewest.within

  -- unless the walk had stopped, the bytes that were taken tell what is answered, and lead to the state
  pub taken_tells : stopped_by w ≡ none → run w (take x.taken s) ≡ record { tells = events_of x.answer; walk = x.walk }
  taken_tells goes =
      subst (λ (c : Call). run w (take c.taken s) ≡ record { tells = c.tells; walk = c.walk }) (call_said (take_of w s) x p)
      (take_runs w s goes)
