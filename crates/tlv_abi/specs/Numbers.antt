-- The numbers of a tag, a length and an object, in the order in which a host program gets them, and the copy of a value
-- (rules 6.1 to 6.15, 15.1 to 15.4).
use Rattle.std.specs.Prelude.{ℕ, ◌≡◌, List, [], ◌∷◌}
use Rattle.basis.specs.Reply.{Told, Reply, ok, refused, then}
use Rattle.abi.specs.Answers.{Row, row, RowTold, CopiedWith}
use Rattle.abi.specs.Lookups.{lookup_row}
use Rattle.abi.specs.Readings.{tlv_reading_by_number}
use Rattle.tlv.specs.Tag.{Tag, tag_alone}
use Rattle.tlv.specs.Len.{Len, len_of}
use Rattle.tlv.specs.Object.{Item, Stop, object_at}
use Rattle.tlv.specs.Lookup.{part, Found, Halt, span_of, lookup}

-- the numbers of a tag: its number, and how many bytes it takes
abbrev pub tag_numbers : Reply Tag → Reply (List ℕ)
tag_numbers x = then x (λ t. ok (t.number ∷ t.size ∷ []))

unfoldable pub take_tag_reply : ℕ → List ℕ → Reply (List ℕ)
take_tag_reply n s = tag_numbers (tag_alone (tlv_reading_by_number n) s)

-- the numbers of a length: its number, and how many bytes it takes
abbrev pub len_numbers : Reply Len → Reply (List ℕ)
len_numbers x = then x (λ l. ok (l.number ∷ l.size ∷ []))

unfoldable pub take_len_reply : ℕ → List ℕ → Reply (List ℕ)
take_len_reply n s = len_numbers (len_of (tlv_reading_by_number n) s)

-- the numbers of an object: its place, its tag, the place of its value, and the length of the value. For 11 and 12: the
-- place, and zeros (rules 15.1, 15.2 and 15.7)
abbrev pub object_row : Told Stop Item → Row
object_row (ok i) = row 0 (i.place ∷ i.tag ∷ i.at ∷ i.len ∷ [])
object_row (refused e) = row e.number (e.place ∷ 0 ∷ 0 ∷ 0 ∷ [])

unfoldable pub take_data_object_row : ℕ → List ℕ → ℕ → Row
take_data_object_row n s a = object_row (object_at (tlv_reading_by_number n) s a)

-- a value that is copied, with the numbers of its lookup; if the lookup is refused, its numbers alone
abbrev pub CopiedOrTold : List ℕ → Told Halt Found → List ℕ → List ℕ → ℕ → List ℕ → List ℕ → Type 0
CopiedOrTold s (ok p) to out r to' out' = CopiedWith (lookup_row (ok p)).numbers (part s (span_of p)) to out r to' out'
CopiedOrTold s (refused h) to out r to' out' = RowTold (lookup_row (refused h)) out r out' × (to' ≡ to)

-- the promise of `gorvisclen_value`, in the reading with number n
abbrev pub ValueCopied : ℕ → List ℕ → List ℕ → List ℕ → List ℕ → ℕ → List ℕ → List ℕ → Type 0
ValueCopied n s path = CopiedOrTold s (lookup (tlv_reading_by_number n) s path)
