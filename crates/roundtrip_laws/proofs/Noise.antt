-- Pieces that are put in and refused change nothing (rule 11.5).
use Prim.Native.Nat.{ℕ}
use mathlib.Core.Path.{◌≡◌, refl, ap, ◌∙◌}
use mathlib.Core.List.{List, [], ◌∷◌, ◌++◌}
use lib.ListN.{length, take, drop}
use lib.Seq.{take_at, drop_at}
use Rattle.basis.specs.Reply.{refused}
use Rattle.reassembler.specs.Join.{join_of}
use Rattle.reassembler.specs.declared.Reassembler.{Reassembler}
use Rattle.reassembler.proofs.Steps.{refused_kept}
use Rattle.roundtrip_laws.specs.Run.{reply_in, reply_to, Run, reply_then, run}
use Rattle.roundtrip_laws.specs.Noise.{Sent, piece, noise, all_sent, pieces_sent, replies_to_pieces, RefusedThere}
use Rattle.roundtrip_laws.proofs.Runs.{then, run_append, run_replies}

-- one piece, put in anywhere between others and refused there: its reply is added at its place; the other replies, the
-- state and the room are the same
pub put_in : (r : Reassembler) (room : List ℕ) (ps qs : List (List ℕ)) (p : List ℕ) (k : ℕ)
    → let x = run r room ps in (join_of x.state x.room p).reply ≡ refused k
    → let y = run r room (ps ++ qs) in
    run r room (ps ++ (p ∷ qs))
    ≡ record {
      replies = take (length ps) y.replies ++ (refused k ∷ drop (length ps) y.replies);
      state = y.state;
      room = y.room;
    }
unfolding run
put_in r room ps qs p k e =
    let x = run r room ps in
    let o = join_of x.state x.room p in
    let kept = refused_kept x.state x.room p k e in
    let same : run o.state o.room qs ≡ run x.state x.room qs = λ i. run (kept.0 i) (kept.1 i) qs in
    let rest = (run x.state x.room qs).replies in
    run_append r room ps (p ∷ qs)
    ∙ ap (λ (z : Run). then x (reply_then (reply_to o) z)) same
    ∙ ap (λ a. then x (reply_then (reply_in a o.room) (run x.state x.room qs))) e
    ∙ rw (
      run_append r room ps qs,
      take_at x.replies rest (length ps) (run_replies r room ps),
      drop_at x.replies rest (length ps) (run_replies r room ps),
    )

-- the first of many that were put in: the number it is refused with; and `RefusedThere` for it and the rest
refusal_number : (r : Reassembler) (room p : List ℕ) (ss : List Sent) → RefusedThere r room (noise p ∷ ss) → (k : ℕ) × ((join_of r room p).reply ≡ refused k)
unfolding RefusedThere
refusal_number r room p ss h = h.0

refused_first : (r : Reassembler) (room p : List ℕ) (ss : List Sent) → (k : ℕ) × ((join_of r room p).reply ≡ refused k)
    → RefusedThere (join_of r room p).state (join_of r room p).room ss → RefusedThere r room (noise p ∷ ss)
unfolding RefusedThere
refused_first r room p ss k rest = (k, rest)

-- many pieces, put in anywhere and refused there
pub noise_nothing : (r : Reassembler) (room : List ℕ) (ss : List Sent) → RefusedThere r room ss
    → let x = run r room (all_sent ss) in
    let y = run r room (pieces_sent ss) in
    (replies_to_pieces ss x.replies ≡ y.replies) × (x.state ≡ y.state) × (x.room ≡ y.room)
unfolding run RefusedThere
noise_nothing r room [] h = (refl, refl, refl)
noise_nothing r room (piece p ∷ ss) h =
    let o = join_of r room p in
    let s = noise_nothing o.state o.room ss h in
    (ap (λ rs. reply_to o ∷ rs) s.0, s.1, s.2)
noise_nothing r room (noise p ∷ ss) h =
    let o = join_of r room p in
    let kept = refused_kept r room p _ (refusal_number r room p ss h).1 in
    let same : run o.state o.room (pieces_sent ss) ≡ run r room (pieces_sent ss) = λ i. run (kept.0 i) (kept.1 i) (pieces_sent ss) in
    let s = noise_nothing o.state o.room ss h.1 in (
      s.0 ∙ ap (λ (x : Run). x.replies) same,
      s.1 ∙ ap (λ (x : Run). x.state) same,
      s.2 ∙ ap (λ (x : Run). x.room) same,
    )

-- what `RefusedThere` asks: the reply to each piece put in, at its place, is `refused k` for some k
pub refused_there : (r : Reassembler) (room : List ℕ) (ss : List Sent)
    → ((before after : List Sent) (p : List ℕ) → ss ≡ before ++ (noise p ∷ after)
    → let x = run r room (all_sent before) in (k : ℕ) × ((join_of x.state x.room p).reply ≡ refused k))
    → RefusedThere r room ss
unfolding run RefusedThere
refused_there r room [] h = tt
refused_there r room (piece p ∷ ss) h =
    let o = join_of r room p in
    refused_there o.state o.room ss (λ before after q e. h (piece p ∷ before) after q (ap (λ l. piece p ∷ l) e))
refused_there r room (noise p ∷ ss) h =
    let o = join_of r room p in
    refused_first r room p ss (h [] ss p refl)
    (refused_there o.state o.room ss (λ before after q e. h (noise p ∷ before) after q (ap (λ l. noise p ∷ l) e)))

-- a piece of a command is in `all_sent` and in `pieces_sent`, at its place; one that was put in is in `all_sent` only
all_sent_append : (ss ts : List Sent) → all_sent (ss ++ ts) ≡ all_sent ss ++ all_sent ts
all_sent_append [] ts = refl
all_sent_append (piece p ∷ ss) ts = ap (λ l. p ∷ l) (all_sent_append ss ts)
all_sent_append (noise p ∷ ss) ts = ap (λ l. p ∷ l) (all_sent_append ss ts)

pieces_sent_append : (ss ts : List Sent) → pieces_sent (ss ++ ts) ≡ pieces_sent ss ++ pieces_sent ts
pieces_sent_append [] ts = refl
pieces_sent_append (piece p ∷ ss) ts = ap (λ l. p ∷ l) (pieces_sent_append ss ts)
pieces_sent_append (noise p ∷ ss) ts = pieces_sent_append ss ts

module _ (before after : List Sent) (p : List ℕ) where
  pub piece_in_both : (all_sent (before ++ (piece p ∷ after)) ≡ all_sent before ++ (p ∷ all_sent after))
      × (pieces_sent (before ++ (piece p ∷ after)) ≡ pieces_sent before ++ (p ∷ pieces_sent after))
  piece_in_both = (all_sent_append before (piece p ∷ after), pieces_sent_append before (piece p ∷ after))

  pub noise_in_all : (all_sent (before ++ (noise p ∷ after)) ≡ all_sent before ++ (p ∷ all_sent after))
      × (pieces_sent (before ++ (noise p ∷ after)) ≡ pieces_sent before ++ pieces_sent after)
  noise_in_all = (all_sent_append before (noise p ∷ after), pieces_sent_append before (noise p ∷ after))
