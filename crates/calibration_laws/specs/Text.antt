-- Dates compared as text, letter by letter: the fault of the booking system (rule 19.6).
use Rattle.std.specs.Prelude.{ℕ, Bool, true, false, cond, List, [], ◌∷◌, ltb, eqb}

-- whether a text stands before another one in the order of a dictionary
unfoldable pub stands_before : List ℕ → List ℕ → Bool
stands_before [] [] = false
stands_before [] (y ∷ t) = true
stands_before (x ∷ s) [] = false
stands_before (x ∷ s) (y ∷ t) = cond (ltb x y) true (cond (eqb x y) (stands_before s t) false)
