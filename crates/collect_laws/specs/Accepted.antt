-- What a list of responses comes to, in plain words and without steps: which of them are accepted, their data and their
-- statuses (rules 14.4 to 14.6).
use Rattle.std.specs.Prelude.{ℕ, ◌-◌, ◌≡◌, Bool, true, false, cond, List, [], ◌∷◌, ◌++◌, map, leb, eqb, length}
use Rattle.std.proofs.Math.Option.{Option, none, some}
use Rattle.basis.specs.Every.{Every}
use Rattle.response.specs.Response.{data_of, status_of}
use Rattle.response.specs.declared.status.Status.{Status}

-- a response is accepted if it has at least two bytes, and its data fit into what is left of the room (rule 14.6)
unfoldable pub is_accepted : ℕ → List ℕ → Bool
is_accepted left s = cond (leb 2 (length s)) (leb (length (data_of s)) left) false

-- a status asks for more if it is 61xx or 6Cxx (rules 14.2 to 14.4)
unfoldable pub asks_more : Status → Bool
asks_more t = cond (eqb t.sw1 0x61) true (eqb t.sw1 0x6C)

-- the accepted responses of a list, in order, up to and with the first whose status asks for nothing (rules 14.4 to
-- 14.6)
unfoldable pub accepted : ℕ → List (List ℕ) → List (List ℕ)
accepted left [] = []
accepted left (s ∷ ss) =
    cond (is_accepted left s)
    (s ∷ cond (asks_more (status_of s)) (accepted (left - length (data_of s)) ss) [])
    (accepted left ss)

-- the data of responses, joined in order (rule 14.5)
unfoldable pub joined : List (List ℕ) → List ℕ
joined [] = []
joined (s ∷ ss) = data_of s ++ joined ss

-- the statuses of responses (rule 14.9)
abbrev pub statuses : List (List ℕ) → List Status
statuses ss = map status_of ss

-- the status that ends it: the first that asks for nothing (rule 14.4)
unfoldable pub end_status : List Status → Option Status
end_status [] = none
end_status (t ∷ ts) = cond (asks_more t) (end_status ts) (some t)

-- every response of a list asks for more (rules 14.2 and 14.3)
abbrev pub AllAskMore : List (List ℕ) → Type 0
AllAskMore ss = Every (λ s. asks_more (status_of s) ≡ true) ss

-- a list of responses ends with s, which asks for nothing, and all before it ask for more (rule 14.4)
pub record EndsWith (ss : List (List ℕ)) (s : List ℕ) : Type 0 where
  pub before : List (List ℕ)
  pub last : ss ≡ before ++ (s ∷ [])
  pub more : AllAskMore before
  pub nothing : asks_more (status_of s) ≡ false
