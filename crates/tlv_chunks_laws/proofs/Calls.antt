-- What a call says of the bytes that it took, for every state and chunk (rules 18.1, 18.5 and 18.7).
use Prim.Native.Nat.{ℕ, zero, suc}
use mathlib.Core.Path.{◌≡◌, refl, sym, ap, subst, ◌∙◌}
use mathlib.Core.List.{List, [], ◌∷◌, ◌++◌, cons-ne-nil}
use mathlib.Core.Option.{some}
use native.Mathlib.Omega.{arith}
use lib.ListN.{drop}
use Rattle.std.specs.Prelude.{Result, Ok, Err}
use Rattle.tlv.specs.Stop.{stop_number}
use Rattle.tlv.specs.declared.stop.Stop.{Stop}
use Rattle.tlv.specs.declared.stop.Stop.TheVariants as stop
use Rattle.tlv_chunks.specs.Header.{byte_of}
use Rattle.tlv_chunks.specs.Run.{Event, refusal, Step, header_byte, step, following, run}
use Rattle.tlv_chunks.specs.Call.{Call, after_byte, up_to_reply, repeated, take_of, call_of, TakeIs}
use Rattle.tlv_chunks.specs.declared.header.Header.{Header as Part}
use Rattle.tlv_chunks.specs.declared.header.HeaderByte.{HeaderByte}
use Rattle.tlv_chunks.specs.declared.header.HeaderByte.TheVariants as byte
use Rattle.tlv_chunks.specs.declared.walk.ChunkWalk.{ChunkWalk}
use Rattle.tlv_chunks.specs.declared.walk.ChunkWalk.TheVariants.{Boundary, Header, Value, Stopped}
use Rattle.tlv_chunks.specs.declared.walk.ChunkTaken.{ChunkTaken}
use Rattle.tlv_chunks.proofs.Calls.{call_said}
use Rattle.tlv_chunks_laws.specs.Session.{stopped_by, once_after}
use Rattle.tlv_chunks_laws.proofs.Runs.{run_stopped}

-- what is told, with repeated refusals once: after ts in the state w the state is v, and `new` is left of ts
abbrev pub Once : ChunkWalk → List Event → List Event → ChunkWalk → Type 0
Once w ts new v = (es : List Event) → once_after (stopped_by w) (ts ++ es) ≡ new ++ once_after (stopped_by v) es

-- a refusal that is told alone is what the state has stopped with
abbrev pub Stops : List Event → ChunkWalk → Type 0
Stops ts v = (k : ℕ) → ts ≡ refusal k ∷ [] → stopped_by v ≡ some k

-- one byte
header_once : (h : Part) (x : Result HeaderByte Stop) → Once (Header h) (header_byte x).tells (header_byte x).tells (header_byte x).walk
unfolding once_after
header_once h (Ok (byte.More g)) es = refl
header_once h (Ok (byte.Complete t zero)) es = refl
header_once h (Ok (byte.Complete t (suc n))) es = refl
header_once h (Err r) es = refl

step_once : (w : ChunkWalk) (b : ℕ) → Once w (step w b).tells (step w b).tells (step w b).walk
unfolding step once_after
step_once Boundary b es = refl
step_once (Header h) b es = header_once h (byte_of h b) es
step_once (Value zero) b es = refl
step_once (Value (suc n)) b es = refl
step_once (Stopped r) b es = refl

not_told : {P : Type 0} (k : ℕ) → ◌≡◌ {A = List Event} [] (refusal k ∷ []) → P
not_told k e = absurd (cons-ne-nil (refusal k) [] (sym e))

header_stops : (x : Result HeaderByte Stop) → Stops (header_byte x).tells (header_byte x).walk
header_stops (Ok (byte.More g)) k e = not_told k e
header_stops (Ok (byte.Complete t zero)) k e = absurd (let z : ◌≡◌ {A = ℕ} 0 1 = cc in omega arith)
header_stops (Ok (byte.Complete t (suc n))) k e = absurd (let z : ◌≡◌ {A = ℕ} 0 1 = cc in omega arith)
header_stops (Err r) k e = let f : ◌≡◌ {A = ℕ} (stop_number r) k = cc in ap some f

step_stops : (w : ChunkWalk) (b : ℕ) → Stops (step w b).tells (step w b).walk
unfolding step
step_stops Boundary b k e = not_told k e
step_stops (Header h) b k e = header_stops (byte_of h b) k e
step_stops (Value zero) b k e = absurd (let z : ◌≡◌ {A = ℕ} 0 1 = cc in omega arith)
step_stops (Value (suc n)) b k e = not_told k e
step_stops (Stopped r) b k e = not_told k e

-- a call on the chunk s in the state w, whose run over s is r: r tells what is new of the call, and goes on from its
-- state over the bytes that it did not take. A call that tells nothing takes all bytes, a refusal stops the walk
pub record Goes (w : ChunkWalk) (r : Step) (s : List ℕ) (c : Call) : Type 0 where
  pub new : List Event
  pub runs : r ≡ following new (run c.walk (drop c.taken s))
  pub onces : Once w c.tells new c.walk
  pub used : c.tells ≡ [] → drop c.taken s ≡ []
  pub stops : Stops c.tells c.walk

-- bytes up to the first that tells something
after_byte_lem : (w v : ChunkWalk) (ts : List Event) (b : ℕ) (s : List ℕ) (c : Call) → Once w ts ts v → Stops ts v → Goes v (run v s) s c
    → Goes w (following ts (run v s)) (b ∷ s) (after_byte ts v c)
after_byte_lem w v [] b s c o h g =
    record { new = g.new; runs = g.runs; onces = λ es. o (c.tells ++ es) ∙ g.onces es; used = g.used; stops = g.stops }
after_byte_lem w v (e ∷ ts) b s c o h g =
    record { new = e ∷ ts; runs = refl; onces = o; used = λ f. absurd (cons-ne-nil e ts f); stops = h }

up_to_reply_lem : (w : ChunkWalk) (s : List ℕ) → Goes w (run w s) s (up_to_reply w s)
unfolding run up_to_reply
up_to_reply_lem w [] = record { new = []; runs = refl; onces = λ es. refl; used = λ _. refl; stops = λ k e. not_told k e }
up_to_reply_lem w (b ∷ s) =
    let x = step w b in
    after_byte_lem w x.walk x.tells b s (up_to_reply x.walk s) (step_once w b) (step_stops w b) (up_to_reply_lem x.walk s)

-- a walk that has stopped: the repeated refusal is not new
again : (w : ChunkWalk) (k : ℕ) → stopped_by w ≡ some k → (s : List ℕ) → Once w (refusal k ∷ []) [] w → Goes w (run w s) s (repeated k w)
again w k e s o =
    record {
      new = [];
      runs = run_stopped w k e s ∙ sym (run_stopped w k e (drop 0 s));
      onces = o;
      used = λ f. absurd (cons-ne-nil (refusal k) [] f);
      stops = λ j f. let same : ◌≡◌ {A = ℕ} k j = cc in e ∙ ap some same;
    }

-- every call
pub take_goes : (w : ChunkWalk) (s : List ℕ) → Goes w (run w s) s (take_of w s)
unfolding take_of once_after
take_goes Boundary s = up_to_reply_lem Boundary s
take_goes (Header h) s = up_to_reply_lem (Header h) s
take_goes (Value n) s = up_to_reply_lem (Value n) s
take_goes (Stopped stop.End) s = again (Stopped stop.End) 11 refl s (λ es. refl)
take_goes (Stopped stop.Unreadable) s = again (Stopped stop.Unreadable) 12 refl s (λ es. refl)

-- the same of an answer that `take` promises
pub answer_goes : (w : ChunkWalk) (s : List ℕ) (x : ChunkTaken) → TakeIs w s x → Goes w (run w s) s (call_of x)
answer_goes w s x p = subst (Goes w (run w s) s) (call_said (take_of w s) x p) (take_goes w s)
