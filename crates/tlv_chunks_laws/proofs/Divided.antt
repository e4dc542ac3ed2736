-- However a record is divided, the replies joined together and the final state are those of its bytes one by one (rule
-- 18.5). The statements are over the promise of `take`.
use Prim.Native.Nat.{ℕ}
use mathlib.Core.Path.{◌≡◌, refl, sym, ap, subst, ◌∙◌, ◌∙⁻¹◌}
use mathlib.Core.List.{List, [], ◌∷◌, ◌++◌, append_assoc, append-nil, flatten}
use borrow.Author.Tests.{eq-eqb, ne_eqb}
use lib.ListN.{drop}
use Rattle.std.specs.Prelude.{Result, Ok, Err}
use Rattle.tlv.specs.Stop.{stop_number}
use Rattle.tlv.specs.declared.stop.Stop.{Stop}
use Rattle.tlv_chunks.specs.Run.{Event, head, end, refusal, Step, nothing, following, run}
use Rattle.tlv_chunks.specs.Call.{events_of, NewIs}
use Rattle.tlv_chunks.specs.declared.walk.ChunkWalk.{ChunkWalk}
use Rattle.tlv_chunks.specs.declared.walk.ChunkWalk.TheVariants.{Boundary}
use Rattle.tlv_chunks.specs.declared.walk.TakeChunk.{TakeChunk}
use Rattle.tlv_chunks.specs.declared.walk.TakeChunk.TheVariants as answer
use Rattle.tlv_chunks.specs.declared.walk.ChunkTaken.{ChunkTaken}
use Rattle.tlv_chunks_laws.specs.Session.{stopped_by, LastAnswer, Answered, state_after, Session, told, once_after, once}
use Rattle.tlv_chunks_laws.proofs.Runs.{run_append, run_nothing, run_stopped}
use Rattle.tlv_chunks_laws.proofs.Calls.{Stops, answer_goes}

-- the last answer to a chunk: what is left of it changes nothing
rest_nothing : (a : Result TakeChunk Stop) (v : ChunkWalk) (s : List ℕ) → LastAnswer a → (events_of a ≡ [] → s ≡ []) → Stops (events_of a) v → run v s ≡ nothing v
rest_nothing (Ok answer.NeedMore) v s u f g = ap (run v) (f refl) ∙ run_nothing v
rest_nothing (Ok (answer.Head t n)) v s u f g = absurd u
rest_nothing (Ok (answer.Empty t)) v s u f g = absurd u
rest_nothing (Ok answer.ValueEnd) v s u f g = absurd u
rest_nothing (Err r) v s u f g = run_stopped v (stop_number r) (g (stop_number r) refl) s

-- answers in the state w, where the run is r: what they say, once, is what r tells, and their last state is that of r
pub record Ran (w : ChunkWalk) (r : Step) (xs : List ChunkTaken) : Type 0 where
  pub tells : (es : List Event) → once_after (stopped_by w) (told xs ++ es) ≡ r.tells ++ once_after (stopped_by r.walk) es
  pub state : state_after w xs ≡ r.walk

-- the answers to one chunk
answered : (w : ChunkWalk) (s : List ℕ) (xs : List ChunkTaken) → Answered w s xs → Ran w (run w s) xs
unfolding told
answered w s [] h = absurd h
answered w s (x ∷ []) h =
    let g = answer_goes w s x h.0 in
    let ends : run w s ≡ following g.new (nothing x.walk) =
    g.runs ∙ ap (following g.new) (rest_nothing x.answer x.walk (drop x.taken s) h.1 g.used g.stops) in
    record {
      tells = λ es.
          ap (λ (l : List Event). once_after (stopped_by w) (l ++ es)) (append-nil (events_of x.answer)) ∙ g.onces es
          ∙ ap (λ (l : List Event). l ++ once_after (stopped_by x.walk) es) (sym (append-nil g.new))
          ∙ ap (λ (r : Step). r.tells ++ once_after (stopped_by r.walk) es) (sym ends);
      state = ap (λ (r : Step). r.walk) (sym ends);
    }
answered w s (x ∷ y ∷ xs) h =
    let g = answer_goes w s x h.0 in
    let rest = run x.walk (drop x.taken s) in
    let deeper = answered x.walk (drop x.taken s) (y ∷ xs) h.1 in
    record {
      tells = λ es.
          ap (once_after (stopped_by w)) (append_assoc (events_of x.answer) (told (y ∷ xs)) es) ∙ g.onces (told (y ∷ xs) ++ es)
          ∙ ap (λ (l : List Event). g.new ++ l) (deeper.tells es)
          ∙ sym (append_assoc g.new rest.tells (once_after (stopped_by rest.walk) es))
          ∙ ap (λ (r : Step). r.tells ++ once_after (stopped_by r.walk) es) (sym g.runs);
      state = deeper.state ∙ ap (λ (r : Step). r.walk) (sym g.runs);
    }

-- answers, and then more answers
told_append : (xs ys : List ChunkTaken) → told (xs ++ ys) ≡ told xs ++ told ys
unfolding told
told_append [] ys = refl
told_append (x ∷ xs) ys = ap (λ l. events_of x.answer ++ l) (told_append xs ys) ∙ sym (append_assoc (events_of x.answer) (told xs) (told ys))

state_append : (w : ChunkWalk) (xs ys : List ChunkTaken) → state_after w (xs ++ ys) ≡ state_after (state_after w xs) ys
state_append w [] ys = refl
state_append w (x ∷ xs) ys = state_append x.walk xs ys

ran_append : (w : ChunkWalk) (r q : Step) (xs ys : List ChunkTaken) → Ran w r xs → Ran r.walk q ys → Ran w (following r.tells q) (xs ++ ys)
ran_append w r q xs ys a b =
    record {
      tells = λ es.
          ap (λ (l : List Event). once_after (stopped_by w) (l ++ es)) (told_append xs ys)
          ∙ ap (once_after (stopped_by w)) (append_assoc (told xs) (told ys) es) ∙ a.tells (told ys ++ es)
          ∙ ap (λ (l : List Event). r.tells ++ l) (b.tells es)
          ∙ sym (append_assoc r.tells q.tells (once_after (stopped_by q.walk) es));
      state = state_append w xs ys ∙ ap (λ (v : ChunkWalk). state_after v ys) a.state ∙ b.state;
    }

-- the answers to chunks, one after the other
pub session_ran : (w : ChunkWalk) (ss : List (List ℕ)) (xss : List (List ChunkTaken)) → Session w ss xss → Ran w (run w (flatten ss)) (flatten xss)
unfolding flatten told run
session_ran w [] [] h = record { tells = λ es. refl; state = refl }
session_ran w [] (xs ∷ xss) h = absurd h
session_ran w (s ∷ ss) [] h = absurd h
session_ran w (s ∷ ss) (xs ∷ xss) h =
    let a = answered w s xs h.0 in
    let next = session_ran (state_after w xs) ss xss h.1 in
    let b = subst (λ (v : ChunkWalk). Ran v (run v (flatten ss)) (flatten xss)) a.state next in
    rw (run_append w s (flatten ss)) (ran_append w (run w s) (run (run w s).walk (flatten ss)) xs (flatten xss) a b)

-- from a walk that `new` gives: the replies joined together, and the final state, are those of all bytes
module _ (w : ChunkWalk) (start : NewIs w) (ss : List (List ℕ)) (xss : List (List ChunkTaken)) (h : Session w ss xss) where
  pub from_the_start : Ran Boundary (run Boundary (flatten ss)) (flatten xss)
  from_the_start = session_ran Boundary ss xss (subst (λ (v : ChunkWalk). Session v ss xss) start h)

  pub divided_tells : once (told (flatten xss)) ≡ (run Boundary (flatten ss)).tells
  unfolding once_after
  divided_tells =
      let r = run Boundary (flatten ss) in
      ap once (sym (append-nil (told (flatten xss)))) ∙ from_the_start.tells [] ∙ append-nil r.tells

  pub divided_state : state_after w (flatten xss) ≡ (run Boundary (flatten ss)).walk
  divided_state = ap (λ (v : ChunkWalk). state_after v (flatten xss)) start ∙ from_the_start.state

-- so any two divisions of a record agree in both
pub divisions_agree : (w : ChunkWalk) → NewIs w → (ss us : List (List ℕ)) (xss yss : List (List ChunkTaken)) → Session w ss xss → Session w us yss
    → flatten ss ≡ flatten us
    → (once (told (flatten xss)) ≡ once (told (flatten yss))) × (state_after w (flatten xss) ≡ state_after w (flatten yss))
divisions_agree w start ss us xss yss h g e = (
  (divided_tells w start ss xss h ∙ ap (λ (s : List ℕ). (run Boundary s).tells) e) ∙⁻¹ divided_tells w start us yss g,
  (divided_state w start ss xss h ∙ ap (λ (s : List ℕ). (run Boundary s).walk) e) ∙⁻¹ divided_state w start us yss g,
)

-- "a repeated refusal once", in plain words: the same refusal right after itself is left out, and nothing else is
module _ (k : ℕ) (es : List Event) where
  pub once_same : once (refusal k ∷ refusal k ∷ es) ≡ once (refusal k ∷ es)
  unfolding once_after
  once_same = rw (eq-eqb k k refl)

  pub once_other : (j : ℕ) → (k ≡ j → ⊥) → once (refusal k ∷ refusal j ∷ es) ≡ refusal k ∷ once (refusal j ∷ es)
  unfolding once_after
  once_other j n = rw (ne_eqb k j n)

  pub once_head : (t n : ℕ) → once (refusal k ∷ head t n ∷ es) ≡ refusal k ∷ head t n ∷ once es
  unfolding once_after
  once_head t n = refl

  pub once_end : once (refusal k ∷ end ∷ es) ≡ refusal k ∷ end ∷ once es
  unfolding once_after
  once_end = refl

pub once_nothing : once [] ≡ []
unfolding once_after
once_nothing = refl

pub once_alone : (k : ℕ) → once (refusal k ∷ []) ≡ refusal k ∷ []
unfolding once_after
once_alone k = refl

pub once_first_head : (t n : ℕ) (es : List Event) → once (head t n ∷ es) ≡ head t n ∷ once es
unfolding once_after
once_first_head t n es = refl

pub once_first_end : (es : List Event) → once (end ∷ es) ≡ end ∷ once es
unfolding once_after
once_first_end es = refl
