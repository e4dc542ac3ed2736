-- Noise: responses put in between others, each of which is refused at its place (rules 14.6 and 14.9).
use Rattle.std.specs.Prelude.{ℕ, ◌≡◌, List, [], ◌∷◌, length}
use Rattle.basis.specs.Reply.{Reply, refused}
use Rattle.collect.specs.Collect.{Going, send, done, step_of, step_room}
use Rattle.collect_laws.specs.Run.{stands_after}

-- what is heard: a response, or one that was put in (rule 14.9)
pub data Heard : Type 0 where
  response : List ℕ → Heard
  noise : List ℕ → Heard

-- everything that is heard (rule 14.9)
abbrev pub all_heard : List Heard → List (List ℕ)
all_heard [] = []
all_heard (response s ∷ hs) = s ∷ all_heard hs
all_heard (noise s ∷ hs) = s ∷ all_heard hs

-- the same without what was put in (rule 14.9)
abbrev pub without_noise : List Heard → List (List ℕ)
without_noise [] = []
without_noise (response s ∷ hs) = s ∷ without_noise hs
without_noise (noise s ∷ hs) = without_noise hs

-- from the replies to everything that is heard, those to the responses (rule 14.9)
abbrev pub replies_to_responses : List Heard → List (Reply Going) → List (Reply Going)
replies_to_responses [] rs = []
replies_to_responses (h ∷ hs) [] = []
replies_to_responses (response s ∷ hs) (r ∷ rs) = r ∷ replies_to_responses hs rs
replies_to_responses (noise s ∷ hs) (r ∷ rs) = replies_to_responses hs rs

-- each response that was put in is refused at its place, with any number; after the end none is looked at (rule 14.9)
unfoldable pub RefusedThere : Going → List ℕ → List Heard → Type 0
RefusedThere g room [] = Unit {0}
RefusedThere (done r) room (h ∷ hs) = Unit {0}
RefusedThere (send c) room (response s ∷ hs) =
    RefusedThere (stands_after c (step_of c s (length room))) (step_room c s room) hs
RefusedThere (send c) room (noise s ∷ hs) =
    ((k : ℕ) × (step_of c s (length room) ≡ refused k))
    × RefusedThere (stands_after c (step_of c s (length room))) (step_room c s room) hs
