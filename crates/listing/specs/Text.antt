-- The text of the listing, from digits to the whole text. Rules 10.2 to 10.10.
use Prim.Native.String.{String}
use Rattle.std.specs.Prelude.{ℕ, zero, suc, ◌+◌, ◌/◌, ◌%◌, ◌≤◌, ◌≡◌, cond, List, [], ◌∷◌, ◌++◌, ltb, eqb, length, get_or, drop}
use Rattle.basis.specs.Reply.{Reply, ok, refused}
use Rattle.basis.specs.Over.{over, over_at}
use Rattle.class.specs.declared.Reading.TheVariants as class_reading
use Rattle.command.specs.Command.{parse}
use Rattle.command.specs.declared.CommandView.{CommandView}
use Rattle.tlv.specs.Object.{Item, Stop}
use Rattle.tlv.specs.Walk.{walk}
use Rattle.tlv.specs.declared.Reading.TheVariants as tlv_reading
use Rattle.basis.specs.Ascii.{ascii}
use Rattle.listing.specs.Input.{items_at, section_size, well_formed}
use Rattle.listing.specs.declared.lines.Section.{Section}
use Rattle.listing.specs.declared.lines.Section.TheVariants.{Commands, Records}

-- the character of a digit: 0 to 9, A to F (rule 10.9)
unfoldable pub hex_digit : ℕ → ℕ
hex_digit d = cond (ltb d 10) (48 + d) (55 + d)

-- a number in at most k decimal digits
unfoldable pub digits : ℕ → ℕ → List ℕ
digits zero n = []
digits (suc k) n = cond (ltb n 10) (hex_digit n ∷ []) (digits k (n / 10) ++ (hex_digit (n % 10) ∷ []))

-- a number in as many decimal digits as it takes (rule 10.9)
unfoldable pub decimal : ℕ → List ℕ
decimal n = digits (suc n) n

-- the low byte of a number in two hexadecimal digits (rule 10.9)
unfoldable pub hex : ℕ → List ℕ
hex n = hex_digit (n / 16 % 16) ∷ hex_digit (n % 16) ∷ []

-- What a character c of a form stands for: % (37) for the number n in decimal digits, # (35) for the low byte of n in
-- two hexadecimal digits, any other for itself
unfoldable pub form_text : ℕ → ℕ → List ℕ
form_text c n = cond (eqb c 37) (decimal n) (cond (eqb c 35) (hex n) (c ∷ []))

-- how many numbers a character of a form takes
unfoldable pub takes_number : ℕ → ℕ
takes_number c = cond (eqb c 37) 1 (cond (eqb c 35) 1 0)

-- a form with its numbers filled in from the left
unfoldable pub filled : List ℕ → List ℕ → List ℕ
filled [] ns = []
filled (c ∷ form) ns = form_text c (get_or ns 0 0) ++ filled form (drop (takes_number c) ns)

-- the same, for a form that is written as a text
abbrev pub line : String → List ℕ → List ℕ
line form ns = filled (ascii form) ns

-- the numbers in the line of command k (rule 10.4)
abbrev pub line_numbers : ℕ → CommandView → List ℕ
line_numbers k v = k ∷ v.class.cla ∷ v.instruction ∷ v.p1 ∷ v.p2 ∷ v.len ∷ v.le ∷ []

-- the form of the line of a command: the last word is `short` or `extended` (rule 10.4)
abbrev pub line_form : CommandView → String
line_form v = cond v.extended "% # # # # lc % le % extended\n" "% # # # # lc % le % short\n"

-- the line of command k, by what the parser says of it
abbrev pub view_line : ℕ → Reply CommandView → List ℕ
view_line k (ok v) = line (line_form v) (line_numbers k v)
view_line k (refused r) = line "% refused %\n" (k ∷ r ∷ [])

-- the line of command k, which is parsed in the crate reading (rule 10.4)
unfoldable pub command_line : ℕ → List ℕ → List ℕ
command_line k s = view_line k (parse class_reading.Crate s)

-- the line of object j of record k: its tag t in one byte, two or three, and its length n (rule 10.5)
unfoldable pub object_line : ℕ → ℕ → ℕ → ℕ → List ℕ
object_line k j t n =
    cond (ltb t 256) (line "%.% # %\n" (k ∷ j ∷ t ∷ n ∷ []))
    (cond (ltb t 65536) (line "%.% ## %\n" (k ∷ j ∷ t / 256 ∷ t ∷ n ∷ [])) (line "%.% ### %\n" (k ∷ j ∷ t / 65536 ∷ t / 256 ∷ t ∷ n ∷ [])))

-- the lines of objects of record k, numbered from j on, and of the refusal after them, with its place in the record
-- (rule 10.7): 11 prints nothing (rule 10.8)
unfoldable pub walk_lines : ℕ → ℕ → List Item → Stop → List ℕ
walk_lines k j [] x = cond (eqb x.number 11) [] (line "%.% refused % at %\n" (k ∷ j ∷ x.number ∷ x.place ∷ []))
walk_lines k j (i ∷ rest) x = object_line k j i.tag i.len ++ walk_lines k (j + 1) rest x

-- the lines of record k: its objects of the top level, in the crate reading (rule 10.6)
unfoldable pub object_lines : ℕ → List ℕ → List ℕ
object_lines k s = walk_lines k 1 (walk tlv_reading.Crate 0 s).items (walk tlv_reading.Crate 0 s).stop

-- the text of item k of a section
unfoldable pub item_text : Section → ℕ → List ℕ → List ℕ
item_text Commands k s = command_line k s
item_text Records k s = object_lines k s

-- the text of the items of a section, numbered from k on (rule 10.3)
unfoldable pub items_text : Section → ℕ → List (List ℕ) → List ℕ
items_text x k [] = []
items_text x k (s ∷ ss) = item_text x k s ++ items_text x (k + 1) ss

-- the first line of a section with n items (rule 10.3)
abbrev pub head_line : Section → ℕ → List ℕ
head_line Commands n = line "commands %\n" (n ∷ [])
head_line Records n = line "records %\n" (n ∷ [])

-- the text of a section
unfoldable pub section_text : Section → List (List ℕ) → List ℕ
section_text x ss = head_line x (length ss) ++ items_text x 1 ss

-- the text of an input (rules 10.2 and 10.10)
unfoldable pub text_of : List ℕ → List ℕ
text_of s =
    cond (well_formed s) (section_text Commands (items_at s) ++ section_text Records (items_at (drop (section_size s) s)))
    (line "refused %\n" (20 ∷ []))

-- the promise of `list`: the length of the text, and the text at the front of the buffer; bytes past it stay; every
-- text fits
pub record ListIs (s before : List ℕ) (r : ℕ) (after : List ℕ) : Type 0 where
  pub reply : r ≡ length (text_of s)
  pub buffer : after ≡ over (text_of s) before
  pub fits : r ≤ length after

-- a text is written into a list from a place, and r is the place after it
pub record Puts (vs : List ℕ) (at : ℕ) (before : List ℕ) (r : ℕ) (after : List ℕ) : Type 0 where
  pub end : r ≡ at + length vs
  pub same_length : length after ≡ length before
  pub text : after ≡ over_at at vs before
