-- A part of a list is replaced, and the rest stays: bytes before what is written and after it stay (rules 3.9, 4.10 and
-- 7.3).
use Rattle.std.specs.Prelude.{ℕ, ◌+◌, List, ◌++◌, length, take, drop}

-- l with its first elements replaced by vs
unfoldable pub over : List ℕ → List ℕ → List ℕ
over vs l = vs ++ drop (length vs) l

-- l with vs written from a place on; elements before it and after it stay
unfoldable pub over_at : ℕ → List ℕ → List ℕ → List ℕ
over_at at vs l = take at l ++ (vs ++ drop (at + length vs) l)
