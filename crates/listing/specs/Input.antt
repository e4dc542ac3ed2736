-- The input of the listing: two sections, each after its two-byte count, each item after its two-byte length, and
-- nothing after them; at most 60,000 bytes. Rules 10.1, 10.2 and 1.20.
use Rattle.std.specs.Prelude.{ℕ, zero, suc, ◌+◌, ◌*◌, Bool, false, cond, List, [], ◌∷◌, leb, eqb, length, get_or, take, drop}

-- the number in the first two bytes; a byte that is missing counts as 0
unfoldable pub pair : List ℕ → ℕ
pair s = get_or s 0 0 * 256 + get_or s 1 0

-- the first k items
unfoldable pub items : ℕ → List ℕ → List (List ℕ)
items zero s = []
items (suc k) s = take (pair s) (drop 2 s) ∷ items k (drop (2 + pair s) s)

-- how many bytes the first k items take with their lengths
unfoldable pub items_size : ℕ → List ℕ → ℕ
items_size zero s = 0
items_size (suc k) s = 2 + pair s + items_size k (drop (2 + pair s) s)

-- the items of the section at the front, as many as its count says (rule 10.1)
unfoldable pub items_at : List ℕ → List (List ℕ)
items_at s = items (pair s) (drop 2 s)

-- how many bytes the section at the front takes with its count
unfoldable pub section_size : List ℕ → ℕ
section_size s = 2 + items_size (pair s) (drop 2 s)

-- an input is well-formed if it has at most 60,000 bytes, and two sections take all of them (rules 10.1 and 10.2). A
-- section that runs past the end takes more
unfoldable pub well_formed : List ℕ → Bool
well_formed s = cond (leb (length s) 60000) (eqb (section_size s + section_size (drop (section_size s) s)) (length s)) false
