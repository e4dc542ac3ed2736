-- After a refusal every call repeats it and changes nothing; and what closing answers in each state (rules 18.6 and
-- 18.7). The statements are over the promises of `take` and `close`.
use Prim.Native.Nat.{ℕ}
use mathlib.Core.Path.{◌≡◌, refl, sym, ap, ◌∙◌}
use mathlib.Core.List.{List}
use mathlib.Core.Option.{none, some}
use native.Mathlib.Omega.{arith}
use lib.ListN.{take as bytes_taken}
use Rattle.std.specs.Prelude.{Err}
use Rattle.tlv.specs.declared.stop.Stop.TheVariants as stop
use Rattle.tlv_chunks.specs.Run.{Step, run}
use Rattle.tlv_chunks.specs.Call.{take_of, events_of, TakeIs, CloseIs}
use Rattle.tlv_chunks.specs.declared.header.Header.{Header as Part}
use Rattle.tlv_chunks.specs.declared.walk.ChunkWalk.{ChunkWalk}
use Rattle.tlv_chunks.specs.declared.walk.ChunkWalk.TheVariants.{Boundary, Header, Value, Stopped}
use Rattle.tlv_chunks.specs.declared.walk.ChunkTaken.{ChunkTaken}
use Rattle.tlv_chunks.proofs.OneReply.{take, close}
use Rattle.tlv_chunks_laws.specs.Session.{stopped_by}
use Rattle.tlv_chunks_laws.proofs.Runs.{stopped_11, stopped_12, run_not_11}
use Rattle.tlv_chunks_laws.proofs.Calls.{answer_goes}
use Rattle.tlv_chunks_laws.proofs.Answers.{taken_tells}

-- the answer of a walk that has stopped
abbrev pub repeats_11 : ChunkTaken
repeats_11 = record { answer = Err stop.End; taken = 0; walk = Stopped stop.End }

abbrev pub repeats_12 : ChunkTaken
repeats_12 = record { answer = Err stop.Unreadable; taken = 0; walk = Stopped stop.Unreadable }

-- stopped with 11, or with 12: any chunk, of no bytes too, and closing
module _ (x : ChunkTaken) where
  pub take_after_11 : (s : List ℕ) → TakeIs (Stopped stop.End) s x → x ≡ record { answer = Err stop.End; taken = 0; walk = Stopped stop.End }
  unfolding take_of
  take_after_11 s p = take (Stopped stop.End) s x repeats_11 p (record { tells = refl; taken = refl; walk = refl })

  pub take_after_12 : (s : List ℕ) → TakeIs (Stopped stop.Unreadable) s x → x ≡ record { answer = Err stop.Unreadable; taken = 0; walk = Stopped stop.Unreadable }
  unfolding take_of
  take_after_12 s p = take (Stopped stop.Unreadable) s x repeats_12 p (record { tells = refl; taken = refl; walk = refl })

  pub close_after_11 : CloseIs (Stopped stop.End) x → x ≡ record { answer = Err stop.End; taken = 0; walk = Stopped stop.End }
  close_after_11 p = close (Stopped stop.End) x repeats_11 p (record { tells = refl; taken = refl; walk = refl })

  pub close_after_12 : CloseIs (Stopped stop.Unreadable) x → x ≡ record { answer = Err stop.Unreadable; taken = 0; walk = Stopped stop.Unreadable }
  close_after_12 p = close (Stopped stop.Unreadable) x repeats_12 p (record { tells = refl; taken = refl; walk = refl })

  -- closing at a boundary, in a header and in a value
  pub close_at_boundary : CloseIs Boundary x → x ≡ record { answer = Err stop.End; taken = 0; walk = Stopped stop.End }
  close_at_boundary p = close Boundary x repeats_11 p (record { tells = refl; taken = refl; walk = refl })

  pub close_in_header : (h : Part) → CloseIs (Header h) x → x ≡ record { answer = Err stop.Unreadable; taken = 0; walk = Stopped stop.Unreadable }
  close_in_header h p = close (Header h) x repeats_12 p (record { tells = refl; taken = refl; walk = refl })

  pub close_in_value : (n : ℕ) → CloseIs (Value n) x → x ≡ record { answer = Err stop.Unreadable; taken = 0; walk = Stopped stop.Unreadable }
  close_in_value n p = close (Value n) x repeats_12 p (record { tells = refl; taken = refl; walk = refl })

  -- bytes do not end a walk that goes on
  still_going : (w : ChunkWalk) (s : List ℕ) → stopped_by w ≡ none → TakeIs w s x → x.walk ≡ Stopped stop.End → w ≡ Stopped stop.End
  still_going w s goes p e =
      let open-before : stopped_by w ≡ some 11 → ⊥ = λ f. let z : ◌≡◌ {A = ℕ} 0 1 = cc (goes, f) in omega (arith, z) in
      let there : (run w (bytes_taken x.taken s)).walk ≡ Stopped stop.End = ap (λ (r : Step). r.walk) (taken_tells w s x p goes) ∙ e in
      absurd (run_not_11 w (bytes_taken x.taken s) open-before (ap (λ (v : ChunkWalk). stopped_by v) there))

  was_at_the_end : (w : ChunkWalk) (s : List ℕ) → TakeIs w s x → x.walk ≡ Stopped stop.End → w ≡ Stopped stop.End
  was_at_the_end Boundary s p e = still_going Boundary s refl p e
  was_at_the_end (Header h) s p e = still_going (Header h) s refl p e
  was_at_the_end (Value n) s p e = still_going (Value n) s refl p e
  was_at_the_end (Stopped stop.End) s p e = refl
  was_at_the_end (Stopped stop.Unreadable) s p e = ap (λ (y : ChunkTaken). y.walk) (sym (take_after_12 s p)) ∙ e

  -- a refused chunk has stopped the walk with that number
  module _ (w : ChunkWalk) (s : List ℕ) (p : TakeIs w s x) where
    pub refused_12_stops : x.answer ≡ Err stop.Unreadable → x.walk ≡ Stopped stop.Unreadable
    refused_12_stops e = stopped_12 x.walk ((answer_goes w s x p).stops 12 (ap events_of e))

    pub refused_11_stops : x.answer ≡ Err stop.End → x.walk ≡ Stopped stop.End
    refused_11_stops e = stopped_11 x.walk ((answer_goes w s x p).stops 11 (ap events_of e))

    -- a chunk is refused with 11 only after the closing call
    pub only_closing_gives_11 : x.answer ≡ Err stop.End → w ≡ Stopped stop.End
    only_closing_gives_11 e = was_at_the_end w s p (refused_11_stops e)
