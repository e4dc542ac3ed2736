-- A run: responses given to a collection, one after the other (rules 14.2 to 14.6).
use Rattle.std.specs.Prelude.{ℕ, List, [], ◌∷◌, length}
use Rattle.basis.specs.Reply.{Reply, ok, refused}
use Rattle.collect.specs.Collect.{Going, send, done, step_of, step_room}
use Rattle.collect.specs.declared.Collection.{Collection}

-- how it stands after a reply: as the reply says; a refusal leaves the collection as it was (rule 14.6)
abbrev pub stands_after : Collection → Reply Going → Going
stands_after c (ok g) = g
stands_after c (refused k) = send c

-- how many bytes are held (rule 14.8)
abbrev pub held_in : Going → ℕ
held_in (send c) = c.len
held_in (done r) = r.len

-- the replies, one for each response that is looked at; and after all of them how it stands, and the room (rules 14.4
-- and 14.5)
pub record Run : Type 0 where
  pub replies : List (Reply Going)
  pub stands : Going
  pub room : List ℕ

-- a reply, and the run after it (rule 14.5)
abbrev pub reply_then : Reply Going → Run → Run
reply_then x r = record { replies = x ∷ r.replies; stands = r.stands; room = r.room }

-- the run of responses from how it stands: after the end no response is looked at (rule 14.4)
unfoldable pub run_from : Going → List ℕ → List (List ℕ) → Run
run_from g room [] = record { replies = []; stands = g; room = room }
run_from (done r) room (s ∷ ss) = record { replies = []; stands = done r; room = room }
run_from (send c) room (s ∷ ss) =
    reply_then (step_of c s (length room)) (run_from (stands_after c (step_of c s (length room))) (step_room c s room) ss)

-- the run of responses that begins with a collection (rule 14.1)
abbrev pub run : Collection → List ℕ → List (List ℕ) → Run
run c room ss = run_from (send c) room ss
