-- Laws of the lines of commands and records. Rules 10.3 to 10.8.
use Prim.Native.Nat.{ℕ, suc, ◌+◌, ◌-◌, ◌/◌, ◌≤◌, ◌<◌}
use mathlib.Core.Path.{◌≡◌, refl, sym, ap, ◌∙◌}
use mathlib.Core.Bool.{true, false, cond}
use mathlib.Core.List.{List, [], ◌∷◌, ◌++◌}
use native.Mathlib.Omega.{arith}
use native.Mathlib.Nat.{add-zero, min-eq_left}
use lib.Dec.{eqb}
use lib.ListN.{length, take, drop, length-drop}
use lib.Seq.{drop-drop}
use borrow.Author.Tests.{lt-ltb, le-ltb}
use Rattle.basis.specs.Reply.{ok, refused}
use Rattle.class.specs.declared.Reading.TheVariants as class_reading
use Rattle.command.specs.Command.{parse}
use Rattle.command.specs.declared.CommandView.{CommandView}
use Rattle.tlv.specs.Object.{Item, Stop, next_of, size_of, moved, object_at}
use Rattle.tlv.specs.Walk.{walk}
use Rattle.tlv.specs.declared.Reading.TheVariants.{Crate}
use Rattle.tlv.proofs.Within.{crate_stop}
use Rattle.tlv.proofs.Walk.{walk_refused, walk_met, walk_stopped, walk_item, item_inside}
use Rattle.listing.specs.declared.lines.Section.{Section}
use Rattle.listing.specs.Input.{pair, items, items_at}
use Rattle.listing.specs.Text.{line, head_line, line_form, line_numbers, view_line, command_line}
use Rattle.listing.specs.Text.{object_line, walk_lines, object_lines, item_text, items_text, section_text}
use Rattle.listing.proofs.Sections.{items_none, items_next, items_are, items_counted}

-- the line of a command
module _ (k : ℕ) (s : List ℕ) where
  pub refused_line : (r : ℕ) → parse class_reading.Crate s ≡ refused r → line "% refused %\n" (k ∷ r ∷ []) ≡ command_line k s
  unfolding command_line
  refused_line r e = ap (view_line k) (sym e)

  pub view_line_lem : (v : CommandView) → parse class_reading.Crate s ≡ ok v
      → line (line_form v) (line_numbers k v) ≡ command_line k s
  unfolding command_line
  view_line_lem v e = ap (view_line k) (sym e)

  pub extended_line : (v : CommandView) (ns : List ℕ) → v.extended ≡ true → ns ≡ line_numbers k v → parse class_reading.Crate s ≡ ok v
      → line "% # # # # lc % le % extended\n" ns ≡ command_line k s
  extended_line v ns x n e = rw n (rw x at (view_line_lem v e))

  pub short_line : (v : CommandView) (ns : List ℕ) → v.extended ≡ false → ns ≡ line_numbers k v → parse class_reading.Crate s ≡ ok v
      → line "% # # # # lc % le % short\n" ns ≡ command_line k s
  short_line v ns x n e = rw n (rw x at (view_line_lem v e))

-- the line of an object, by how many bytes its tag has
module _ (k j t n : ℕ) where
  pub line_one : t < 256 → line "%.% # %\n" (k ∷ j ∷ t ∷ n ∷ []) ≡ object_line k j t n
  unfolding object_line
  line_one h = rw (lt-ltb t 256 h)

  pub line_two : 256 ≤ t → t < 65536 → line "%.% ## %\n" (k ∷ j ∷ t / 256 ∷ t ∷ n ∷ []) ≡ object_line k j t n
  unfolding object_line
  line_two h g = rw (le-ltb t 256 h, lt-ltb t 65536 g)

  pub line_three : 65536 ≤ t → line "%.% ### %\n" (k ∷ j ∷ t / 65536 ∷ t / 256 ∷ t ∷ n ∷ []) ≡ object_line k j t n
  unfolding object_line
  line_three h = rw (le-ltb t 256 (omega (arith, h)), le-ltb t 65536 h)

-- the lines of record k from its object j on; s is the rest of the record, from place a on
abbrev pub lines_from : ℕ → ℕ → ℕ → List ℕ → List ℕ
lines_from k j a s = walk_lines k j (walk Crate a s).items (walk Crate a s).stop

-- all lines of a record; then by what is read at the front of s: a refusal, or an object and the lines after it
pub lines_first : (k : ℕ) (s : List ℕ) → object_lines k s ≡ lines_from k 1 0 s
unfolding object_lines
lines_first k s = refl

module _ (k j a : ℕ) (s : List ℕ) where
  pub lines_stop : (e : Stop) → next_of Crate s ≡ refused e
      → lines_from k j a s ≡ cond (eqb e.number 11) [] (line "%.% refused % at %\n" (k ∷ j ∷ e.number ∷ a ∷ []))
  unfolding walk_lines
  lines_stop e h = rw (walk_refused Crate a s e h, (crate_stop s e h).0, add-zero)

  pub lines_next : (o : Item) → next_of Crate s ≡ ok o
      → lines_from k j a s ≡ object_line k j o.tag o.len ++ lines_from k (j + 1) (a + size_of o) (drop (size_of o) s)
  unfolding walk_lines
  lines_next o e = rw (walk_met Crate a s o e)

  -- the same by what is read at place a: the end, 12 with its place (rules 10.7 and 10.8), or an object
  lines_stopped : (e : Stop) → moved a (next_of Crate s) ≡ refused e
      → lines_from k j a s ≡ cond (eqb e.number 11) [] (line "%.% refused % at %\n" (k ∷ j ∷ e.number ∷ e.place ∷ []))
  unfolding walk_lines
  lines_stopped e h = rw (walk_stopped Crate a s e h)

  pub lines_end : (n : ℕ) → moved a (next_of Crate s) ≡ refused (record { number = 11; place = n }) → lines_from k j a s ≡ []
  lines_end n h = lines_stopped (record { number = 11; place = n }) h

  pub lines_12 : (n : ℕ) → moved a (next_of Crate s) ≡ refused (record { number = 12; place = n })
      → lines_from k j a s ≡ line "%.% refused % at %\n" (k ∷ j ∷ 12 ∷ n ∷ [])
  lines_12 n h = lines_stopped (record { number = 12; place = n }) h

  pub lines_item : (i : Item) → moved a (next_of Crate s) ≡ ok i
      → lines_from k j a s ≡ object_line k j i.tag i.len ++ lines_from k (j + 1) (i.at + i.len) (drop (i.at + i.len - a) s)
  unfolding walk_lines
  lines_item i h = rw (walk_item Crate a s i h)

-- the same for record s from its place a on, by what is read at that place; and where that object lies
module _ (k j a : ℕ) (s : List ℕ) (h : a ≤ length s) where
  read_at : object_at Crate s a ≡ moved a (next_of Crate (drop a s))
  read_at = rw (min-eq_left {n = a} {m = length s} h)

  pub rest_end : (n : ℕ) → refused (record { number = 11; place = n }) ≡ object_at Crate s a → lines_from k j a (drop a s) ≡ []
  rest_end n e = lines_end k j a (drop a s) n (sym (e ∙ read_at))

  pub rest_12 : (n : ℕ) → refused (record { number = 12; place = n }) ≡ object_at Crate s a
      → lines_from k j a (drop a s) ≡ line "%.% refused % at %\n" (k ∷ j ∷ 12 ∷ n ∷ [])
  rest_12 n e = lines_12 k j a (drop a s) n (sym (e ∙ read_at))

  module _ (i : Item) (e : ok i ≡ object_at Crate s a) where
    pub object_bounds : (a + 1 ≤ i.at) × (i.at + i.len ≤ length s)
    object_bounds = omega (arith, item_inside Crate a (drop a s) i (sym (e ∙ read_at)), length-drop a s)

    pub rest_object : lines_from k j a (drop a s)
        ≡ object_line k j i.tag i.len ++ lines_from k (j + 1) (i.at + i.len) (drop (i.at + i.len) s)
    rest_object =
        let back : a + (i.at + i.len - a) ≡ i.at + i.len = omega (arith, object_bounds) in
        rw (drop-drop (i.at + i.len - a) a s, back) at (lines_item k j a (drop a s) i (sym (e ∙ read_at)))

-- the text of the items from a place on: none left; one of n bytes, and those after it
module _ (x : Section) (k : ℕ) (s : List ℕ) (at left : ℕ) where
  pub items_text_none : left ≡ 0 → items_text x k (items left (drop at s)) ≡ []
  unfolding items_text
  items_text_none e = rw (items_none (drop at s) left e)

  pub items_text_next : (n : ℕ) → n ≡ pair (drop at s) → (rest : ℕ) → left ≡ suc rest
      → items_text x k (items left (drop at s))
      ≡ item_text x k (take (at + 2 + n - (at + 2)) (drop (at + 2) s)) ++ items_text x (k + 1) (items rest (drop (at + 2 + n) s))
  unfolding items_text
  items_text_next n e rest h = rw (items_next s at n e left rest h)

-- a section at a place: its count n, and its items
pub section_text_is : (x : Section) (s : List ℕ) (at n : ℕ) → n ≡ pair (drop at s)
    → section_text x (items_at (drop at s)) ≡ head_line x n ++ items_text x 1 (items n (drop (at + 2) s))
unfolding section_text
section_text_is x s at n e = rw (items_are s at n e, items_counted n (drop (at + 2) s))
