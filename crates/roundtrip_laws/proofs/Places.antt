-- Demand 3 (rule 11.4) by places: each command comes back once, at its last piece and at no other.
use Prim.Native.Nat.{ℕ, ◌+◌, ◌-◌, ◌≤◌, ◌<◌}
use mathlib.Core.Path.{◌≡◌, refl, sym, ap, ◌∙◌}
use mathlib.Core.List.{List, [], ◌∷◌, ◌++◌, flat_map, append_assoc}
use mathlib.Core.Option.{Option, none, some}
use native.Mathlib.Omega.{arith}
use lib.Dec.{ltb}
use lib.ListN.{length, get_or, replicate, length-append, length-replicate, get_or-replicate, get_or-append}
use lib.Seq.{get_or-append-add, get_or_at}
use Rattle.basis.specs.Every.{Every}
use Rattle.basis.specs.Reply.{Reply, ok, refused}
use Rattle.basis.proofs.Every.{every_at}
use Rattle.reassembler.specs.Join.{closed}
use Rattle.roundtrip_laws.specs.Run.{CommandBack, Run, run}
use Rattle.roundtrip_laws.specs.Jobs.{Job, InScope, HasRoom, pieces, stream, command_back_to, replies_to, all_replies}
use Rattle.roundtrip_laws.proofs.Runs.{run_replies}
use Rattle.roundtrip_laws.proofs.Jobs.{some_piece, one_each}
use Rattle.roundtrip_laws.proofs.Demand3.{given_back}

-- a list l that is n elements, then k times a, then b, read by places
module _ {A : Type 0} (l front rest : List A) (k n : ℕ) (a b z : A) (is-so : l ≡ front ++ (replicate k a ++ (b ∷ rest))) (size : length front ≡ n)
  where
    after_front : (i : ℕ) → get_or l (n + i) z ≡ get_or (replicate k a ++ (b ∷ rest)) i z
    after_front i = rw (is-so, ← size) (get_or-append-add front (replicate k a ++ (b ∷ rest)) i z)

    at_more : (i : ℕ) → i < k → get_or l (n + i) z ≡ a
    at_more i h =
        after_front i ∙ get_or-append (replicate k a) (b ∷ rest) z i (omega (arith, h, length-replicate {A = A} k a))
        ∙ get_or-replicate k i a z h

    at_last : (i : ℕ) → i ≡ k → get_or l (n + i) z ≡ b
    at_last i e = after_front i ∙ get_or_at (replicate k a) b rest z i (omega (arith, e, length-replicate {A = A} k a))

flat_append : {A B : Type 0} (f : A → List B) (xs ys : List A) → flat_map f (xs ++ ys) ≡ flat_map f xs ++ flat_map f ys
unfolding flat_map
flat_append f [] ys = refl
flat_append f (x ∷ xs) ys =
    ap (λ l. f x ++ l) (flat_append f xs ys) ∙ sym (append_assoc (f x) (flat_map f xs) (flat_map f ys))

-- as many replies as pieces, for the jobs js before others
as_many_replies : (js ks : List Job) → Every InScope (js ++ ks) → length (all_replies js) ≡ length (stream js)
unfolding flat_map
as_many_replies [] ks f = refl
as_many_replies (j ∷ js) ks f =
    simp length-append (omega (arith, one_each j f.0, as_many_replies js ks f.1))

-- There is one reply for each piece. A job, wherever it is in the list, has at least one piece. The reply to each of
-- them but the last is "more". The reply to the last is the command of the request, extended if there were several
-- pieces.
module _ (before after : List Job) (j : Job) (room : List ℕ) (f : Every InScope (before ++ (j ∷ after)))
    (h : Every (HasRoom room) (before ++ (j ∷ after))) where
  abbrev sent : List (Reply (Option CommandBack))
  sent = (run closed room (stream (before ++ (j ∷ after)))).replies

  sent_is : sent ≡ all_replies before ++ (replicate (length (pieces j) - 1) (ok none) ++ (ok (some (command_back_to j)) ∷ all_replies after))
  unfolding flat_map replies_to
  sent_is =
      ap (λ (x : Run). x.replies) (given_back (before ++ (j ∷ after)) room f h)
      ∙ flat_append replies_to before (j ∷ after)
      ∙ ap (λ l. all_replies before ++ l)
      (append_assoc (replicate (length (pieces j) - 1) (ok none)) (ok (some (command_back_to j)) ∷ []) (all_replies after))

  pub each_at_its_last : let first = length (stream before) in
      let n = length (pieces j) in
      let w = j.request in
      (length sent ≡ length (stream (before ++ (j ∷ after))))
      × (1 ≤ n)
      × ((i : ℕ) → i + 1 < n → get_or sent (first + i) (refused 0) ≡ ok none)
      × (get_or sent (first + (n - 1)) (refused 0)
      ≡ ok
      (some
      (record {
        command =
            record {
              class = record { cla = w.class };
              instruction = w.instruction;
              p1 = w.p1;
              p2 = w.p2;
              len = length w.«data»;
              le = w.le;
              extended = ltb 1 n;
            };
        «data» = w.«data»;
      })))
  each_at_its_last =
      let n = length (pieces j) in
      let first = length (stream before) in
      let before-it = all_replies before in
      let after-it = all_replies after in
      let size = as_many_replies before (j ∷ after) f in (
        run_replies closed room (stream (before ++ (j ∷ after))),
        some_piece j (every_at InScope before after j f),
        (λ i g. at_more sent before-it after-it (n - 1) first (ok none) (ok (some (command_back_to j))) (refused 0) sent_is size i (omega (arith, g))),
        at_last sent before-it after-it (n - 1) first (ok none) (ok (some (command_back_to j))) (refused 0) sent_is size (n - 1) (omega arith),
      )
