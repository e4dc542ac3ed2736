-- The lines of commands and of a refusal in a record, word by word; a record of no bytes; the digits of a byte. Rules
-- 10.4 and 10.6 to 10.9.
use Prim.Native.Nat.{ℕ, suc, ◌+◌}
use mathlib.Core.Path.{◌≡◌, refl, sym, ◌∙◌}
use mathlib.Core.Bool.{Bool, true, false, cond}
use mathlib.Core.List.{List, [], ◌∷◌, ◌++◌, append_assoc}
use native.Mathlib.Nat.{add-zero}
use native.Mathlib.Omega.{arith}
use lib.ListN.{length}
use Rattle.basis.specs.Reply.{ok, refused}
use Rattle.class.specs.declared.Reading.TheVariants.{Crate}
use Rattle.command.specs.Command.{parse}
use Rattle.command.specs.declared.CommandView.{CommandView}
use Rattle.tlv.specs.Object.{Item, Stop}
use Rattle.tlv.specs.Walk.{walk}
use Rattle.tlv.specs.declared.Reading.TheVariants as tlv
use Rattle.basis.specs.Ascii.{ascii}
use Rattle.listing.specs.Text.{hex_digit, hex, decimal, form_text, takes_number, filled, line_numbers, line, command_line, walk_lines, object_lines}
use Rattle.tlv.proofs.Walk.{next_nothing}
use Rattle.listing.proofs.LineLaws.{refused_line, view_line_lem, lines_first, lines_end}
use Rattle.listing_laws.specs.Lines.{command_words, objects_lines, stop_words}

filled_view : (k : ℕ) (v : CommandView) (x : Bool)
    → line (cond x "% # # # # lc % le % extended\n" "% # # # # lc % le % short\n") (line_numbers k v) ≡ command_words k v x
unfolding filled form_text takes_number
filled_view k v true = refl
filled_view k v false = refl

-- a command that is read in the crate reading; one that is refused (rule 10.4)
pub command_shown : (k : ℕ) (s : List ℕ) (v : CommandView) → parse Crate s ≡ ok v → command_line k s ≡ command_words k v v.extended
command_shown k s v e = sym (view_line_lem k s v e) ∙ filled_view k v v.extended

pub refusal_shown : (k : ℕ) (s : List ℕ) (r : ℕ) → parse Crate s ≡ refused r → command_line k s ≡ decimal k ++ (ascii " refused " ++ (decimal r ++ ascii "\n"))
unfolding filled form_text takes_number
refusal_shown k s r e = sym (refused_line k s r e)

-- a record: the lines of its objects, and the line of the refusal at which it stops, with the place of that stop (rules
-- 10.6 to 10.8)
walk_shown : (k j : ℕ) (l : List Item) (e : Stop) → walk_lines k j l e ≡ objects_lines k j l ++ stop_words k (j + length l) e
unfolding walk_lines objects_lines filled form_text takes_number
walk_shown k j [] e = rw add-zero
walk_shown k j (i ∷ l) e =
    let count : j + 1 + length l ≡ j + suc (length l) = omega arith in
    rw (walk_shown k (j + 1) l e, append_assoc, count)

pub record_shown : (k : ℕ) (s : List ℕ) → let w = walk tlv.Crate 0 s in
    object_lines k s ≡ objects_lines k 1 w.items ++ stop_words k (1 + length w.items) w.stop
unfolding object_lines
record_shown k s = let w = walk tlv.Crate 0 s in walk_shown k 1 w.items w.stop

-- a record of no bytes is at its end: 11, which prints nothing (rule 10.8)
pub empty_record : (k : ℕ) → object_lines k [] ≡ []
empty_record k = lines_first k [] ∙ lines_end k 1 0 [] 0 (rw (next_nothing tlv.Crate))

-- every hexadecimal digit, high and low (rule 10.9)
pub hexadecimal : hex 0x01 ++ (hex 0x23 ++ (hex 0x45 ++ (hex 0x67 ++ (hex 0x89 ++ (hex 0xAB ++ (hex 0xCD ++ hex 0xEF))))))
    ≡ ascii "0123456789ABCDEF"
unfolding hex hex_digit
hexadecimal = refl
