-- Responses that are put in and refused change nothing (rules 14.6 and 14.9).
use Prim.Native.Nat.{ℕ, ◌+◌, ◌-◌, ◌<◌}
use mathlib.Core.Path.{◌≡◌, refl, sym, ap, ◌∙◌}
use mathlib.Core.Logic.{◌⊎◌, inl, inr}
use mathlib.Core.List.{List, [], ◌∷◌, ◌++◌}
use native.Mathlib.Decide.{dec_le}
use native.Mathlib.Omega.{arith}
use lib.ListN.{length, take, drop}
use lib.Seq.{take_at, drop_at}
use Rattle.basis.specs.Reply.{refused}
use Rattle.builder.specs.declared.CommandBuilder.{CommandBuilder}
use Rattle.collect.specs.Collect.{Going, send, done, step_of, step_room, StartIs}
use Rattle.collect.specs.declared.Collection.{Collection}
use Rattle.collect_laws.specs.Run.{stands_after, held_in, Run, run_from, run}
use Rattle.collect_laws.specs.Accepted.{accepted, joined}
use Rattle.collect_laws.specs.Noise.{Heard, response, noise, all_heard, without_noise, replies_to_responses, RefusedThere}
use Rattle.collect.proofs.Steps.{refused_kept}
use Rattle.collect_laws.proofs.Steps.{refused_22, refused_23}
use Rattle.collect_laws.proofs.Runs.{then, run_append, run_replies, run_refused, run_done}
use Rattle.collect_laws.proofs.Collected.{held_after, never_above}

-- one response, put in anywhere between others and refused there: its reply is added at its place; the other replies,
-- how it stands and the room are the same
pub put_in : (g : Going) (room : List ℕ) (ss ts : List (List ℕ)) (s : List ℕ) (c : Collection) (k : ℕ)
    → let x = run_from g room ss in x.stands ≡ send c → step_of c s (length x.room) ≡ refused k
    → let y = run_from g room (ss ++ ts) in
    run_from g room (ss ++ (s ∷ ts))
    ≡ record {
      replies = take (length ss) y.replies ++ (refused k ∷ drop (length ss) y.replies);
      stands = y.stands;
      room = y.room;
    }
put_in g room ss ts s c k going e =
    let x = run_from g room ss in
    let rest = (run c x.room ts).replies in
    let n = run_replies g room ss c going in
    let whole : run_from g room (ss ++ ts) ≡ then x (run c x.room ts) =
    run_append g room ss ts ∙ ap (λ g. then x (run_from g x.room ts)) going in
    run_append g room ss (s ∷ ts)
    ∙ ap (λ g. then x (run_from g x.room (s ∷ ts))) going
    ∙ ap (then x) (run_refused c x.room s ts k e)
    ∙ rw (whole, take_at x.replies rest (length ss) n, drop_at x.replies rest (length ss) n)

-- the first of many that were put in: the number it is refused with; and `RefusedThere` for it and the rest
refusal_number : (c : Collection) (room s : List ℕ) (hs : List Heard) → RefusedThere (send c) room (noise s ∷ hs)
    → (k : ℕ) × (step_of c s (length room) ≡ refused k)
unfolding RefusedThere
refusal_number c room s hs h = h.0

refused_first : (c : Collection) (room s : List ℕ) (hs : List Heard) → (k : ℕ) × (step_of c s (length room) ≡ refused k)
    → RefusedThere (stands_after c (step_of c s (length room))) (step_room c s room) hs → RefusedThere (send c) room (noise s ∷ hs)
unfolding RefusedThere
refused_first c room s hs k rest = (k, rest)

-- many responses, put in anywhere and refused there
pub noise_nothing : (g : Going) (room : List ℕ) (hs : List Heard) → RefusedThere g room hs
    → let x = run_from g room (all_heard hs) in
    let y = run_from g room (without_noise hs) in
    (replies_to_responses hs x.replies ≡ y.replies) × (x.stands ≡ y.stands) × (x.room ≡ y.room)
unfolding run_from RefusedThere
noise_nothing g room [] h = (refl, refl, refl)
noise_nothing (done r) room (response s ∷ hs) h = (refl, refl, refl)
noise_nothing (done r) room (noise s ∷ hs) h = rw (run_done r room (without_noise hs)) (refl, refl, refl)
noise_nothing (send c) room (response s ∷ hs) h =
    let x = step_of c s (length room) in
    let n = noise_nothing (stands_after c x) (step_room c s room) hs h in
    (ap (λ rs. x ∷ rs) n.0, n.1, n.2)
noise_nothing (send c) room (noise s ∷ hs) h =
    let x = step_of c s (length room) in
    let k = refusal_number c room s hs h in
    let kept : stands_after c x ≡ send c = ap (stands_after c) k.1 in
    let same : run_from (stands_after c x) (step_room c s room) (without_noise hs) ≡ run c room (without_noise hs) =
    λ i. run_from (kept i) (refused_kept c s room k.0 k.1 i) (without_noise hs) in
    let n = noise_nothing (stands_after c x) (step_room c s room) hs h.1 in (
      n.0 ∙ ap (λ (x : Run). x.replies) same,
      n.1 ∙ ap (λ (x : Run). x.stands) same,
      n.2 ∙ ap (λ (x : Run). x.room) same,
    )

-- what `RefusedThere` asks: the reply to each response put in, at its place, is `refused k` for some k, unless the end
-- was before
pub refused_there : (g : Going) (room : List ℕ) (hs : List Heard)
    → ((before after : List Heard) (s : List ℕ) (c : Collection) → hs ≡ before ++ (noise s ∷ after)
    → let x = run_from g room (all_heard before) in x.stands ≡ send c → (k : ℕ) × (step_of c s (length x.room) ≡ refused k))
    → RefusedThere g room hs
unfolding run_from RefusedThere
refused_there g room [] h = tt
refused_there (done r) room (response s ∷ hs) h = tt
refused_there (done r) room (noise s ∷ hs) h = tt
refused_there (send c) room (response s ∷ hs) h =
    refused_there (stands_after c (step_of c s (length room))) (step_room c s room) hs
    (λ before after q d e going. h (response s ∷ before) after q d (ap (λ l. response s ∷ l) e) going)
refused_there (send c) room (noise s ∷ hs) h =
    refused_first c room s hs (h [] hs s c refl refl)
    (refused_there (stands_after c (step_of c s (length room))) (step_room c s room) hs
    (λ before after q d e going. h (noise s ∷ before) after q d (ap (λ l. noise s ∷ l) e) going))

-- and in plain words: each response put in has under two bytes, or its data and those of the responses accepted before
-- it exceed the room (rule 14.6)
too_much : (c : Collection) (s room : List ℕ) (n : ℕ) → c.len ≡ n → length room < n + (length s - 2)
    → (k : ℕ) × (step_of c s (length room) ≡ refused k)
too_much c s room n e h =
    elim (dec_le 2 (length s)) [
      | yes two ↦ (23, refused_23 c s (length room) two (omega arith))
      | no short ↦ (22, refused_22 c s (length room) (omega arith))
    ]

module _ (b : CommandBuilder) (c : Collection) (begun : StartIs b c) (room : List ℕ) where
  not_accepted_there : (before : List Heard) (s : List ℕ) (d : Collection)
      → (length s < 2) ⊎ (length room < length (joined (accepted (length room) (all_heard before))) + (length s - 2))
      → let x = run c room (all_heard before) in x.stands ≡ send d → (k : ℕ) × (step_of d s (length x.room) ≡ refused k)
  not_accepted_there before s d (inl short) going = (22, refused_22 d s (length (run c room (all_heard before)).room) short)
  not_accepted_there before s d (inr over) going =
      let x = run c room (all_heard before) in
      let held : d.len ≡ length (joined (accepted (length room) (all_heard before))) =
      ap held_in (sym going) ∙ held_after b c begun room (all_heard before) in
      let size = (never_above b c begun room (all_heard before)).1 in
      too_much d s x.room (length (joined (accepted (length room) (all_heard before)))) held (omega (arith, size, over))

  pub refused_there_plain : (hs : List Heard)
      → ((before after : List Heard) (s : List ℕ) → hs ≡ before ++ (noise s ∷ after)
      → (length s < 2) ⊎ (length room < length (joined (accepted (length room) (all_heard before))) + (length s - 2)))
      → RefusedThere (send c) room hs
  refused_there_plain hs h =
      refused_there (send c) room hs (λ before after s d e going. not_accepted_there before s d (h before after s e) going)

-- a response is in `all_heard` and in `without_noise`, at its place; one that was put in is in `all_heard` only
all_append : (hs is : List Heard) → all_heard (hs ++ is) ≡ all_heard hs ++ all_heard is
all_append [] is = refl
all_append (response s ∷ hs) is = ap (λ l. s ∷ l) (all_append hs is)
all_append (noise s ∷ hs) is = ap (λ l. s ∷ l) (all_append hs is)

without_append : (hs is : List Heard) → without_noise (hs ++ is) ≡ without_noise hs ++ without_noise is
without_append [] is = refl
without_append (response s ∷ hs) is = ap (λ l. s ∷ l) (without_append hs is)
without_append (noise s ∷ hs) is = without_append hs is

module _ (before after : List Heard) (s : List ℕ) where
  pub response_in_both : (all_heard (before ++ (response s ∷ after)) ≡ all_heard before ++ (s ∷ all_heard after))
      × (without_noise (before ++ (response s ∷ after)) ≡ without_noise before ++ (s ∷ without_noise after))
  response_in_both = (all_append before (response s ∷ after), without_append before (response s ∷ after))

  pub noise_in_all : (all_heard (before ++ (noise s ∷ after)) ≡ all_heard before ++ (s ∷ all_heard after))
      × (without_noise (before ++ (noise s ∷ after)) ≡ without_noise before ++ without_noise after)
  noise_in_all = (all_append before (noise s ∷ after), without_append before (noise s ∷ after))
