-- The words of the line of a command (rule 10.4) and of the line of a refusal in a record (rule 10.7).
use Rattle.std.specs.Prelude.{ℕ, ◌+◌, Bool, true, false, cond, List, [], ◌∷◌, ◌++◌, eqb}
use Rattle.tlv.specs.Object.{Item, Stop}
use Rattle.command.specs.declared.CommandView.{CommandView}
use Rattle.basis.specs.Ascii.{ascii}
use Rattle.listing.specs.Text.{hex, decimal, object_line}

-- the last word: `extended` or `short`
abbrev pub last_word : Bool → List ℕ
last_word true = ascii " extended\n"
last_word false = ascii " short\n"

-- the line of command k: its number, its header, its two lengths, and the last word by the flag x
abbrev pub command_words : ℕ → CommandView → Bool → List ℕ
command_words k v x =
    decimal k ++ (ascii " " ++ (hex v.class.cla ++ (ascii " " ++ (hex v.instruction ++ (ascii " " ++ (hex v.p1
    ++ (ascii " " ++ (hex v.p2 ++ (ascii " lc " ++ (decimal v.len ++ (ascii " le " ++ (decimal v.le ++ last_word x))))))))))))

-- the lines of objects of record k, numbered from j on (rule 10.5)
unfoldable pub objects_lines : ℕ → ℕ → List Item → List ℕ
objects_lines k j [] = []
objects_lines k j (i ∷ rest) = object_line k j i.tag i.len ++ objects_lines k (j + 1) rest

-- the line of the refusal of record k in place of its object j: record and object, the number, and the place in the
-- record (rule 10.7); 11 has none (rule 10.8)
abbrev pub stop_words : ℕ → ℕ → Stop → List ℕ
stop_words k j e =
    cond (eqb e.number 11) []
    (decimal k ++ (ascii "." ++ (decimal j ++ (ascii " refused " ++ (decimal e.number ++ (ascii " at " ++ (decimal e.place ++ ascii "\n")))))))
