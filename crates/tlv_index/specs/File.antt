-- The file of an index: four sections in fixed order, each after its two-byte count of entries (rules 17.4 to 17.6,
-- refusal 25). w is the number of bytes of a place and of a length.
use Rattle.std.specs.Prelude.{ℕ, zero, suc, ◌+◌, ◌*◌, ◌≡◌, Result, Bool, true, false, cond, List, [], ◌∷◌, ◌++◌, map, leb, eqb, length, take, drop}
use Rattle.basis.specs.Reply.{Reply, ok, refused, then}
use Rattle.basis.specs.Number.{be, number}
use Rattle.basis.specs.Refusal.{as_reply}
use Rattle.basis.specs.declared.refusal.Refusal.{Refusal}
use Rattle.tlv.specs.Object.{Stop}
use Rattle.tlv_index.specs.Index.{Kind, crate_kind, Entry, Index}

-- numbers of w bytes each; a section: how many they are, in two bytes, and the numbers
unfoldable pub fields : ℕ → List ℕ → List ℕ
fields w [] = []
fields w (n ∷ ns) = be w n ++ fields w ns

unfoldable pub section : ℕ → List ℕ → List ℕ
section w ns = be 2 (length ns) ++ fields w ns

-- the last section: one entry, the reason in two bytes and its place
unfoldable pub end_section : ℕ → Stop → List ℕ
end_section w e = be 2 1 ++ (be 2 e.number ++ be w e.place)

-- an index as a file: tags of three bytes, places, lengths, and the end (rule 17.4)
unfoldable pub file_of : ℕ → Index → List ℕ
file_of w x =
    section 3 (map (λ e. e.tag) x.entries)
    ++ (section w (map (λ e. e.at) x.entries) ++ (section w (map (λ e. e.len) x.entries) ++ end_section w x.stop))

-- the number in w bytes at a place of a file
unfoldable pub field : ℕ → ℕ → List ℕ → ℕ
field w a f = number (take w (drop a f))

-- in a file of n entries: where the counts of the second, third and fourth section stand, the reason and its place; and
-- how many bytes the file has
abbrev pub places_count : ℕ → ℕ → ℕ
places_count w n = 2 + 3 * n

abbrev pub lengths_count : ℕ → ℕ → ℕ
lengths_count w n = 4 + 3 * n + w * n

abbrev pub end_count : ℕ → ℕ → ℕ
end_count w n = 6 + 3 * n + 2 * (w * n)

abbrev pub file_size : ℕ → ℕ → ℕ
file_size w n = 10 + w + 3 * n + 2 * (w * n)

-- entry number i of a file of n entries: number i of each of the first three sections (rule 17.4)
abbrev pub entry_in : ℕ → ℕ → List ℕ → ℕ → Entry
entry_in w n f i =
    record {
      tag = field 3 (2 + 3 * i) f;
      at = field w (places_count w n + 2 + w * i) f;
      len = field w (lengths_count w n + 2 + w * i) f;
    }

-- k entries from number i on; the end; the index in the file
unfoldable pub entries_from : ℕ → ℕ → List ℕ → ℕ → ℕ → List Entry
entries_from w n f i zero = []
entries_from w n f i (suc k) = entry_in w n f i ∷ entries_from w n f (suc i) k

unfoldable pub stop_in : ℕ → ℕ → List ℕ → Stop
stop_in w n f = record { number = field 2 (end_count w n + 2) f; place = field w (end_count w n + 4) f }

unfoldable pub index_in : ℕ → ℕ → List ℕ → Index
index_in w n f = record { entries = entries_from w n f 0 n; stop = stop_in w n f }

-- whether a number is a reason to end: 11 or 12
unfoldable pub is_reason : ℕ → Bool
is_reason k = cond (eqb k 11) true (eqb k 12)

-- whether the fourth count is 1, and the reason is one
unfoldable pub ends_as : ℕ → ℕ → List ℕ → Bool
ends_as w n f = cond (eqb (field 2 (end_count w n) f) 1) (is_reason (field 2 (end_count w n + 2) f)) false

-- whether the second and the third count are n, and the end is right
unfoldable pub counts_agree : ℕ → ℕ → List ℕ → Bool
counts_agree w n f =
    cond (eqb (field 2 (places_count w n) f) n) (cond (eqb (field 2 (lengths_count w n) f) n) (ends_as w n f) false) false

-- whether a file has the form (rule 17.5): the first count is at most 255, no byte is missing and none stands behind,
-- and the other counts and the end are right
unfoldable pub is_file : ℕ → List ℕ → Bool
is_file w f =
    cond (leb (field 2 0 f) 255) (cond (eqb (length f) (file_size w (field 2 0 f))) (counts_agree w (field 2 0 f) f) false) false

-- the index in a file: 25 if it has another form (rules 17.6 and 1.31)
unfoldable pub decoded : ℕ → List ℕ → Reply Index
decoded w f = cond (is_file w f) (ok (index_in w (field 2 0 f) f)) (refused 25)

-- the promise of `check_index`: how many entries the index in the file has
unfoldable pub checked : Kind → List ℕ → Reply ℕ
checked k f = then (decoded k.width f) (λ x. ok (length x.entries))

abbrev pub CheckIndexIs : List ℕ → Result ℕ Refusal → Type 0
CheckIndexIs f r = as_reply r ≡ checked crate_kind f
