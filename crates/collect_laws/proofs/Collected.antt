-- The theorems about what is collected, for a run that begins with `start` of a command, for any room and any responses
-- (rules 14.1 to 14.9).
use Prim.Native.Nat.{ℕ, ◌≤◌}
use mathlib.Core.Path.{◌≡◌, refl, sym, ap, ◌∙◌}
use mathlib.Core.Logic.{⊎_elim}
use mathlib.Core.List.{List, map}
use mathlib.Core.Option.{Option, none, some}
use native.Mathlib.Nat.{zero-add, sub-zero}
use native.Mathlib.Omega.{arith}
use lib.ListN.{length, take, drop}
use lib.Seq.{take-append_seam}
use Rattle.std.specs.Prelude.{Result}
use Rattle.basis.specs.Reply.{ok}
use Rattle.basis.specs.Refusal.{as_reply}
use Rattle.basis.specs.declared.refusal.Refusal.{Refusal}
use Rattle.basis.specs.Over.{over}
use Rattle.basis.proofs.Over.{over_at_zero, length_over}
use Rattle.builder.specs.declared.CommandBuilder.{CommandBuilder}
use Rattle.builder_laws.proofs.Written.{command_in_buffer}
use Rattle.response.specs.Response.{status_of}
use Rattle.response.specs.declared.status.Status.{Status}
use Rattle.response.specs.declared.Response.{Response}
use Rattle.collect.specs.Collect.{builder_of, data_sent, send, done, StartIs, WriteIs, CollectedIs}
use Rattle.collect.specs.declared.Sent.{Sent}
use Rattle.collect.specs.declared.Sent.TheVariants.{Command}
use Rattle.collect.specs.declared.Collection.{Collection}
use Rattle.collect_laws.specs.Run.{held_in, run}
use Rattle.collect_laws.specs.Accepted.{accepted, joined, statuses, end_status, AllAskMore, EndsWith}
use Rattle.collect_laws.specs.Sends.{sends, last_of, sent_in, bytes_of, stands_by}
use Rattle.collect_laws.proofs.Runs.{done_not_going}
use Rattle.collect_laws.proofs.Accepted.{accepted_fits, accepted_ends, end_none, end_some}
use Rattle.collect_laws.proofs.PlainRun.{PlainRun, plain_run}

-- how many bytes are held, however it stands
held_by : (o : Option Status) (s : Sent) (n : ℕ) → held_in (stands_by o s n) ≡ n
held_by none s n = refl
held_by (some t) s n = refl

module _ (b : CommandBuilder) (c : Collection) (begun : StartIs b c) (room : List ℕ) (ss : List (List ℕ)) where
  from_start : let start : Collection = record { sent = Command b; len = 0 } in
      PlainRun b start room (accepted (length room) ss) (run start room ss)
  from_start = rw sub-zero at (plain_run b (record { sent = Command b; len = 0 }) room ss refl (omega arith))

  -- the front of the room is the data of all accepted responses, joined in order; the rest is as it was (rules 14.5 and
  -- 14.8)
  pub room_after : (run c room ss).room ≡ over (joined (accepted (length room) ss)) room
  room_after =
      ap (λ (c : Collection). (run c room ss).room) begun
      ∙ from_start.kept
      ∙ over_at_zero (joined (accepted (length room) ss)) room

  -- how it stands: ended by the first status that asks for nothing, or going on with what is to be sent (rule 14.4)
  pub stands_after : let ts = statuses (accepted (length room) ss) in
      (run c room ss).stands
      ≡ stands_by (end_status ts) (last_of (Command b) (sends b ts)) (length (joined (accepted (length room) ss)))
  stands_after =
      let acc = accepted (length room) ss in
      let ts = statuses acc in
      ap (λ (c : Collection). (run c room ss).stands) begun
      ∙ from_start.stand
      ∙ ap (stands_by (end_status ts) (last_of (Command b) (sends b ts))) (zero-add (length (joined acc)))

  -- what is sent is given by the command and the statuses of the accepted responses (rules 14.2, 14.3 and 14.9)
  pub sent_after : sent_in (run c room ss).replies ≡ sends b (statuses (accepted (length room) ss))
  sent_after = ap (λ (c : Collection). sent_in (run c room ss).replies) begun ∙ from_start.sent

  -- the bytes held are the data of all accepted responses, and never more than the room has (rules 14.5 and 14.6)
  pub held_after : held_in (run c room ss).stands ≡ length (joined (accepted (length room) ss))
  held_after =
      let ts = statuses (accepted (length room) ss) in
      ap held_in stands_after ∙ held_by (end_status ts) (last_of (Command b) (sends b ts)) (length (joined (accepted (length room) ss)))

  pub never_above : (held_in (run c room ss).stands ≤ length room) × (length (run c room ss).room ≡ length room)
  never_above =
      let fits = accepted_fits (length room) ss in (
        omega (arith, held_after, fits),
        ap length room_after ∙ length_over (joined (accepted (length room) ss)) room fits,
      )

  -- it goes on if all accepted responses ask for more (rules 14.2 and 14.3)
  pub goes_on : AllAskMore (accepted (length room) ss)
      → (run c room ss).stands
      ≡ send (record {
        sent = last_of (Command b) (sends b (statuses (accepted (length room) ss)));
        len = length (joined (accepted (length room) ss));
      })
  goes_on h =
      let acc = accepted (length room) ss in
      stands_after
      ∙ ap (λ o. stands_by o (last_of (Command b) (sends b (statuses acc))) (length (joined acc))) (end_none acc h)

  -- it is done with the status of the last accepted response, if that is the first that asks for nothing (rule 14.4)
  pub ends : (s : List ℕ) → EndsWith (accepted (length room) ss) s
      → (run c room ss).stands ≡ done (record { len = length (joined (accepted (length room) ss)); status = status_of s })
  ends s h =
      let acc = accepted (length room) ss in
      stands_after
      ∙ ap (λ o. stands_by o (last_of (Command b) (sends b (statuses acc))) (length (joined acc))) (end_some acc s h)

  -- and it is done in no other case
  pub ends_only : (r : Response) → (run c room ss).stands ≡ done r → (s : List ℕ) × EndsWith (accepted (length room) ss) s
  ends_only r e =
      ⊎_elim (λ h. absurd (done_not_going r _ (sym e ∙ goes_on h))) (λ h. h) (accepted_ends (length room) ss)

  -- what `collected` gives at the end are the data of all accepted responses, joined in order (rule 14.8)
  pub collected_all : (r : Response) (x : List ℕ) → (run c room ss).stands ≡ done r → CollectedIs r (run c room ss).room x
      → x ≡ joined (accepted (length room) ss)
  unfolding over
  collected_all r x e h =
      let d = joined (accepted (length room) ss) in
      let n : r.len ≡ length d = ap held_in (sym e) ∙ held_after in
      h ∙ rw (n, room_after) (take-append_seam d (drop (length d) room))

-- runs of one command send the same if their accepted responses have the same statuses: whatever their data are,
-- whatever is refused between them, and whatever the rooms are (rule 14.9)
pub same_sent : (b : CommandBuilder) (c : Collection) → StartIs b c → (room room' : List ℕ) (ss ss' : List (List ℕ))
    → statuses (accepted (length room) ss) ≡ statuses (accepted (length room') ss')
    → sent_in (run c room ss).replies ≡ sent_in (run c room' ss').replies
same_sent b c begun room room' ss ss' e =
    sent_after b c begun room ss ∙ ap (sends b) e ∙ sym (sent_after b c begun room' ss')

-- and the same bytes, for one command with its data
pub same_bytes : (b : CommandBuilder) (c : Collection) → StartIs b c → (room room' : List ℕ) (ss ss' : List (List ℕ)) (d : List ℕ)
    → statuses (accepted (length room) ss) ≡ statuses (accepted (length room') ss')
    → map (bytes_of d) (sent_in (run c room ss).replies) ≡ map (bytes_of d) (sent_in (run c room' ss').replies)
same_bytes b c begun room room' ss ss' d e = ap (map (bytes_of d)) (same_sent b c begun room room' ss ss' e)

-- `write` leaves the bytes of what is to be sent in the buffer, at its place (rule 14.7)
pub sent_written : (c : Collection) (d buffer : List ℕ) (at n : ℕ) (x : Result ℕ Refusal) (after : List ℕ) → WriteIs c d buffer at x after
    → as_reply x ≡ ok n → take n (drop at after) ≡ bytes_of d c.sent
unfolding bytes_of
sent_written c d buffer at n x after w e = command_in_buffer (builder_of c.sent) (data_sent c.sent d) buffer at n x after w e
