-- A run from any state whose held bytes lie in the room is what the plain words say: the room, how it stands, and what
-- is sent (rules 14.2 to 14.6).
use Prim.Native.Nat.{ℕ, ◌+◌, ◌-◌, ◌≤◌}
use mathlib.Core.Path.{◌≡◌, refl, sym, ap, subst, ◌∙◌}
use mathlib.Core.Bool.{true, false}
use mathlib.Core.List.{List, [], ◌∷◌, ◌++◌, append-nil}
use mathlib.Core.Option.{none, some}
use native.Mathlib.Decide.{dec_le, ℕ_discrete}
use native.Mathlib.Nat.{add-zero, add_assoc}
use native.Mathlib.Omega.{arith}
use lib.ListN.{length, length-append, take-append-drop}
use Rattle.basis.specs.Reply.{ok, refused}
use Rattle.basis.specs.Over.{over_at}
use Rattle.basis.proofs.Over.{length_over_at, over_at_twice}
use Rattle.builder.specs.declared.CommandBuilder.{CommandBuilder}
use Rattle.class.specs.declared.Class.{Class}
use Rattle.response.specs.Response.{data_of, status_of}
use Rattle.response.specs.declared.status.Status.{Status}
use Rattle.response.specs.declared.Response.{Response}
use Rattle.response.proofs.Splitting.{data_length}
use Rattle.collect.specs.Collect.{get_response, builder_of, again, next_of, send, done, going_by, step_of}
use Rattle.collect.specs.declared.Sent.{Sent}
use Rattle.collect.specs.declared.Sent.TheVariants.{Command, GetResponse}
use Rattle.collect.specs.declared.Collection.{Collection}
use Rattle.collect_laws.specs.Run.{Run, run_from, run}
use Rattle.collect_laws.specs.Accepted.{asks_more, accepted, joined, statuses, end_status}
use Rattle.collect_laws.specs.Sends.{sends_after, last_of, sent_in, stands_by}
use Rattle.collect.proofs.Steps.{calls_more, calls_again, calls_nothing}
use Rattle.collect_laws.proofs.Steps.{refused_22, refused_23, held, held_room}
use Rattle.collect_laws.proofs.Runs.{run_done, run_first, run_refused}
use Rattle.collect_laws.proofs.Sends.{sends_61, sends_6c, sends_nothing}
use Rattle.collect_laws.proofs.Accepted.{asks_61, asks_6c, asks_nothing, short_not, long_not, accepted_more, accepted_end}

-- what is sent again has the same class
again_class : (s : Sent) (xx : ℕ) → (builder_of (again s xx)).class ≡ (builder_of s).class
again_class (Command b) xx = refl
again_class (GetResponse b) xx = refl

-- nothing put into a room
over_nothing : (at : ℕ) (l : List ℕ) → over_at at [] l ≡ l
unfolding over_at
over_nothing at l = rw add-zero (take-append-drop at l)

-- a run of a command b, from a state and a room, of which these responses are accepted
pub record PlainRun (b : CommandBuilder) (c : Collection) (room : List ℕ) (acc : List (List ℕ)) (x : Run) : Type 0 where
  pub kept : x.room ≡ over_at c.len (joined acc) room
  pub stand : x.stands
      ≡ stands_by (end_status (statuses acc)) (last_of c.sent (sends_after b c.sent (statuses acc)))
      (c.len + length (joined acc))
  pub sent : sent_in x.replies ≡ sends_after b c.sent (statuses acc)

module _ (b : CommandBuilder) (c : Collection) (room : List ℕ) where
  -- no response, and one that is refused
  plain_run_none : PlainRun b c room [] (run c room [])
  unfolding joined end_status sends_after run_from
  plain_run_none =
      record {
        kept = sym (over_nothing c.len room);
        stand = λ i. send (record { sent = c.sent; len = sym (add-zero c.len) i });
        sent = refl;
      }

  plain_run_refused : (s : List ℕ) (ss : List (List ℕ)) (left k : ℕ) → step_of c s (length room) ≡ refused k
      → accepted left (s ∷ ss) ≡ accepted left ss → PlainRun b c room (accepted left ss) (run c room ss)
      → PlainRun b c room (accepted left (s ∷ ss)) (run c room (s ∷ ss))
  plain_run_refused s ss left k e f h =
      rw (run_refused c room s ss k e, f) (record { kept = h.kept; stand = h.stand; sent = h.sent })

  -- one that is accepted, whose status asks for x, and the run after it
  plain_run_more : (s : List ℕ) (ss : List (List ℕ)) (left : ℕ) (x : Sent) → c.len + length (data_of s) ≤ length room → 2 ≤ length s
      → next_of c.sent (status_of s) ≡ some x
      → accepted left (s ∷ ss) ≡ s ∷ accepted (left - (length s - 2)) ss → asks_more (status_of s) ≡ true
      → ((ts : List Status) → sends_after b c.sent (status_of s ∷ ts) ≡ x ∷ sends_after b x ts)
      → let next : Collection = record { sent = x; len = c.len + length (data_of s) } in
      let after = over_at c.len (data_of s) room in
      PlainRun b next after (accepted (left - (length s - 2)) ss) (run next after ss)
      → PlainRun b c room (accepted left (s ∷ ss)) (run c room (s ∷ ss))
  unfolding joined end_status
  plain_run_more s ss left x fits long e f asks sends h =
      let d = data_of s in
      let acc = accepted (left - (length s - 2)) ss in
      let next : Collection = record { sent = x; len = c.len + length d } in
      let after = over_at c.len d room in
      let reply : step_of c s (length room) ≡ ok (send next) =
      held c s (length room) long fits
      ∙ ap (λ o. ok (going_by o (record { len = c.len + length d; status = status_of s }))) e in
      let size : c.len + length d + length (joined acc) ≡ c.len + length (d ++ joined acc) = simp (length-append, add_assoc) in
      let last : last_of c.sent (sends_after b c.sent (status_of s ∷ statuses acc)) ≡ last_of x (sends_after b x (statuses acc)) =
      ap (last_of c.sent) (sends (statuses acc)) in
      rw (run_first c room s ss (ok (send next)) after reply (held_room c s room long fits), f)
      (record {
        kept = h.kept ∙ over_at_twice c.len d (joined acc) room (omega arith);
        stand = h.stand ∙ rw (asks, last, size);
        sent = rw (sends (statuses acc)) (ap (λ l. x ∷ l) h.sent);
      })

  -- one that is accepted, whose status ends it
  plain_run_end : (s : List ℕ) (ss : List (List ℕ)) (left : ℕ) → c.len + length (data_of s) ≤ length room → 2 ≤ length s
      → next_of c.sent (status_of s) ≡ none → accepted left (s ∷ ss) ≡ s ∷ [] → asks_more (status_of s) ≡ false
      → sends_after b c.sent (status_of s ∷ []) ≡ [] → PlainRun b c room (accepted left (s ∷ ss)) (run c room (s ∷ ss))
  unfolding joined end_status
  plain_run_end s ss left fits long e f asks sends =
      let d = data_of s in
      let whole : Response = record { len = c.len + length d; status = status_of s } in
      let after = over_at c.len d room in
      let reply : step_of c s (length room) ≡ ok (done whole) =
      held c s (length room) long fits ∙ ap (λ o. ok (going_by o whole)) e in
      rw (
        run_first c room s ss (ok (done whole)) after reply (held_room c s room long fits),
        f,
        run_done whole after ss,
      )
      (record {
        kept = ap (λ l. over_at c.len l room) (sym (append-nil d));
        stand = rw (asks, append-nil);
        sent = sym sends;
      })

  -- one that fits, and the run after it, by its status
  module _ (s : List ℕ) (ss : List (List ℕ)) (left : ℕ) (long : 2 ≤ length s) (fits : c.len + length (data_of s) ≤ length room)
      (enough : length s - 2 ≤ left) (same : (builder_of c.sent).class ≡ b.class)
      (after : (x : Sent) → (builder_of x).class ≡ b.class
      → let next : Collection = record { sent = x; len = c.len + length (data_of s) } in
      let room : List ℕ = over_at c.len (data_of s) room in
      PlainRun b next room (accepted (left - (length s - 2)) ss) (run next room ss)) where
    plain_run_fits : PlainRun b c room (accepted left (s ∷ ss)) (run c room (s ∷ ss))
    plain_run_fits =
        let t = status_of s in
        elim (ℕ_discrete t.sw1 0x61) [
          | yes e ↦
              let x : Sent = GetResponse (get_response b.class t.sw2) in
              plain_run_more s ss left x fits long
              (calls_more c.sent t e ∙ ap (λ (k : Class). some (GetResponse (get_response k t.sw2))) same)
              (accepted_more left s ss long enough (asks_61 t e)) (asks_61 t e) (λ ts. sends_61 b c.sent t ts e) (after x refl)
          | no f ↦
              elim (ℕ_discrete t.sw1 0x6C) [
                | yes e ↦
                    let x : Sent = again c.sent t.sw2 in
                    plain_run_more s ss left x fits long (calls_again c.sent t e) (accepted_more left s ss long enough (asks_6c t e)) (asks_6c t e)
                    (λ ts. sends_6c b c.sent t ts e) (after x (again_class c.sent t.sw2 ∙ same))
                | no g ↦
                    plain_run_end s ss left fits long (calls_nothing c.sent t f g) (accepted_end left s ss long enough (asks_nothing t f g))
                    (asks_nothing t f g) (sends_nothing b c.sent t [] f g)
              ]
        ]

-- a run from any state whose class is the command's, and whose held bytes lie in the room
pub plain_run : (b : CommandBuilder) (c : Collection) (room : List ℕ) (ss : List (List ℕ)) → (builder_of c.sent).class ≡ b.class
    → c.len ≤ length room → PlainRun b c room (accepted (length room - c.len) ss) (run c room ss)
unfolding accepted
plain_run b c room [] k h = plain_run_none b c room
plain_run b c room (s ∷ ss) k h =
    let left = length room - c.len in
    let size = data_length s in
    elim (dec_le 2 (length s)) [
      | yes long ↦
          elim (dec_le (c.len + length (data_of s)) (length room)) [
            | yes fits ↦
                let room' : List ℕ = over_at c.len (data_of s) room in
                let rest : length room' - (c.len + length (data_of s)) ≡ left - (length s - 2) =
                omega (arith, length_over_at c.len (data_of s) room fits) in
                plain_run_fits b c room s ss left long fits (omega arith) k (λ x e.
                let next : Collection = record { sent = x; len = c.len + length (data_of s) } in
                subst (λ n. PlainRun b next room' (accepted n ss) (run next room' ss)) rest
                (plain_run b next room' ss e (omega (arith, length_over_at c.len (data_of s) room fits))))
            | no over ↦
                plain_run_refused b c room s ss left 23 (refused_23 c s (length room) long (omega arith))
                (long_not left s ss (omega arith)) (plain_run b c room ss k h)
          ]
      | no short ↦
          plain_run_refused b c room s ss left 22 (refused_22 c s (length room) (omega arith))
          (short_not left s ss (omega arith)) (plain_run b c room ss k h)
    ]
