-- An input written out: two sections, each after its two-byte count, each item after its two-byte length (rule 10.1).
use Rattle.std.specs.Prelude.{ℕ, List, [], ◌∷◌, ◌++◌, length}
use Rattle.basis.specs.Number.{be}

-- items, each after its length
unfoldable pub items_bytes : List (List ℕ) → List ℕ
items_bytes [] = []
items_bytes (x ∷ xs) = be 2 (length x) ++ (x ++ items_bytes xs)

-- a section, after its count
unfoldable pub section_bytes : List (List ℕ) → List ℕ
section_bytes xs = be 2 (length xs) ++ items_bytes xs

-- commands and records. In at most 60,000 bytes there are fewer than 65,536 items, and each has fewer bytes than that,
-- so every count and every length fits in two bytes
abbrev pub input_bytes : List (List ℕ) → List (List ℕ) → List ℕ
input_bytes cs rs = section_bytes cs ++ section_bytes rs
