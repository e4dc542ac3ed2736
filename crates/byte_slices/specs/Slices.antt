-- Bytes compared (rules 3.10 and 9.5), and a part of them: command data and values found are parts of the caller's
-- bytes (rule 12.8).
use Rattle.std.specs.Prelude.{ℕ, ◌≡◌, Bool, true, false, cond, List, [], ◌∷◌, eqb, take, drop}

-- whether two lists hold the same bytes
unfoldable pub same : List ℕ → List ℕ → Bool
same [] [] = true
same [] (y ∷ t) = false
same (x ∷ s) [] = false
same (x ∷ s) (y ∷ t) = cond (eqb x y) (same s t) false

-- the promise of `same`
abbrev pub SameIs : List ℕ → List ℕ → Bool → Type 0
SameIs s t r = r ≡ same s t

-- the promise of `part`: n bytes from a place on, but none past the end
abbrev pub PartIs : List ℕ → ℕ → ℕ → List ℕ → Type 0
PartIs s at n x = x ≡ take n (drop at s)
