-- The number that decimal digits show (rule 10.9).
use Rattle.std.specs.Prelude.{ℕ, ◌+◌, ◌-◌, ◌*◌, ◌≤◌, ◌≡◌, List, [], ◌∷◌, get_or}
use Rattle.basis.specs.Every.{Every}

-- the number that characters show after digits that show a
unfoldable pub value_from : ℕ → List ℕ → ℕ
value_from a [] = a
value_from a (c ∷ cs) = value_from (a * 10 + (c - 48)) cs

-- characters show a number: all are digits, they have its value, and the first is not 0 unless the number is 0
pub record Shows (n : ℕ) (cs : List ℕ) : Type 0 where
  pub value : value_from 0 cs ≡ n
  pub digits : Every (λ c. (48 ≤ c) × (c ≤ 57)) cs
  pub first : 1 ≤ n → get_or cs 0 48 ≡ 48 → ⊥
