-- How long a text is at most: 13 bytes for each byte of the input, since every number in it is below 100,000.
use Prim.Native.Nat.{ℕ, zero, suc, ◌+◌, ◌*◌, ◌/◌, ◌≤◌, ◌<◌}
use Prim.Native.String.{String}
use mathlib.Core.Path.{◌≡◌, refl}
use mathlib.Core.Bool.{Bool, true, false, cond}
use mathlib.Core.List.{List, [], ◌∷◌, ◌++◌}
use native.Mathlib.Omega.{arith}
use lib.Dec.{ltb, leb, eqb}
use lib.ListN.{length, get_or, take, drop, length-append, length-take, length-drop}
use borrow.Author.Tests.{leb-true, eqb-true}
use Rattle.basis.specs.Every.{Every}
use Rattle.basis.specs.Number.{Bytes}
use Rattle.basis.specs.Reply.{Reply, ok, refused}
use Rattle.basis.proofs.Truth.{both_true}
use Rattle.class.specs.declared.Reading.TheVariants as class_reading
use Rattle.command.specs.Command.{parse}
use Rattle.command.specs.declared.CommandView.{CommandView}
use Rattle.command.proofs.Parsing.{within}
use Rattle.tlv.specs.Tag.{tag_of}
use Rattle.tlv.specs.Object.{object_of, size_of}
use Rattle.tlv.specs.declared.Reading.TheVariants.{Crate}
use Rattle.tlv.proofs.Within.{crate_stop}
use Rattle.tlv.proofs.Walk.{by_objects}
use Rattle.listing.specs.declared.lines.Section.{Section}
use Rattle.listing.specs.declared.lines.Section.TheVariants.{Commands, Records}
use Rattle.basis.specs.Ascii.{ascii}
use Rattle.listing.specs.Input.{pair, items, items_size, items_at, section_size, well_formed}
use Rattle.listing.specs.Text.{decimal, hex, form_text, takes_number, filled, line, head_line}
use Rattle.listing.specs.Text.{line_numbers, view_line, command_line, object_line, item_text, items_text, section_text, text_of}
use Rattle.listing.proofs.Decimal.{at_most_five}
use Rattle.basis.proofs.Number.{bytes_drop, bytes_take}
use Rattle.listing.proofs.Sections.{items_counted, items_size_least}
use Rattle.listing.proofs.SmallNumbers.{le_few, command_refusal_small, object_refusal_small}
use Rattle.listing.proofs.LineLaws.{lines_from, lines_first, lines_stop, lines_next}

few_cond : (b : Bool) (x y : List ℕ) (m : ℕ) → length x ≤ m → length y ≤ m → length (cond b x y) ≤ m
few_cond true x y m h g = h
few_cond false x y m h g = g

-- a form: at most five digits for % if its numbers are below 100,000, two for #
abbrev Below : ℕ → Type 0
Below n = n < 100000

abbrev decimals : List ℕ → List ℕ → List ℕ
decimals [] ns = []
decimals (c ∷ form) ns = cond (eqb c 37) (get_or ns 0 0 ∷ []) [] ++ decimals form (drop (takes_number c) ns)

abbrev most_of : List ℕ → ℕ
most_of [] = 0
most_of (c ∷ form) = cond (eqb c 37) 5 (cond (eqb c 35) 2 1) + most_of form

-- by whether the next character is % and whether it is #
module _ (c n : ℕ) (form ns : List ℕ) (deeper : (ms : List ℕ) → Every Below (decimals form ms) → length (filled form ms) ≤ most_of form) where
  filled_by : (a b : Bool) → Every Below (cond a (n ∷ []) [] ++ decimals form (drop (cond a 1 (cond b 1 0)) ns))
      → length (cond a (decimal n) (cond b (hex n) (c ∷ [])) ++ filled form (drop (cond a 1 (cond b 1 0)) ns)) ≤ cond a 5 (cond b 2 1) + most_of form
  unfolding hex
  filled_by true b h =
      omega (arith, length-append (decimal n) (filled form (drop 1 ns)), at_most_five n h.0, deeper (drop 1 ns) h.1)
  filled_by false true h = omega (arith, deeper (drop 1 ns) h)
  filled_by false false h = omega (arith, deeper ns h)

filled_few : (form ns : List ℕ) → Every Below (decimals form ns) → length (filled form ns) ≤ most_of form
unfolding filled form_text takes_number
filled_few [] ns h = omega arith
filled_few (c ∷ form) ns h = filled_by c (get_or ns 0 0) form ns (filled_few form) (eqb c 37) (eqb c 35) h

line_few : (form : String) (ns : List ℕ) → Every Below (decimals (ascii form) ns) → length (line form ns) ≤ most_of (ascii form)
line_few form ns h = filled_few (ascii form) ns h

-- the line of a command
module _ (k : ℕ) (h : k < 100000) (s : List ℕ) (b : Bytes s) (few : length s ≤ 60000) where
  view_few : (x : Bool) (v : CommandView) → v.len < 100000 → v.le < 100000
      → length (line (cond x "% # # # # lc % le % extended\n" "% # # # # lc % le % short\n") (line_numbers k v)) ≤ 45
  unfolding takes_number
  view_few true v g f = line_few "% # # # # lc % le % extended\n" (line_numbers k v) (h, (g, (f, tt)))
  view_few false v g f =
      let l : length (line "% # # # # lc % le % short\n" (line_numbers k v)) ≤ 42 =
      line_few "% # # # # lc % le % short\n" (line_numbers k v) (h, (g, (f, tt))) in
      omega arith

  command_by : (x : Reply CommandView) → parse class_reading.Crate s ≡ x → length (view_line k x) ≤ 26 + 13 * length s
  unfolding takes_number
  command_by (ok v) e =
      let w = within class_reading.Crate s v e in
      omega (arith, w.after_header, w.inside, view_few v.extended v (omega (arith, w.inside)) (omega (arith, le_few s b v e)))
  command_by (refused r) e =
      let l : length (line "% refused %\n" (k ∷ r ∷ [])) ≤ 20 =
      line_few "% refused %\n" (k ∷ r ∷ []) (h, (omega (arith, command_refusal_small s r e), tt)) in
      omega arith

  command_few : length (command_line k s) ≤ 26 + 13 * length s
  unfolding command_line
  command_few = command_by (parse class_reading.Crate s) refl

-- the lines of a record: an object takes two bytes or more
module _ (k : ℕ) (h : k < 100000) where
  object_few : (j t n : ℕ) → j < 100000 → n < 100000 → length (object_line k j t n) ≤ 25
  unfolding object_line takes_number
  object_few j t n g f =
      let one : length (line "%.% # %\n" (k ∷ j ∷ t ∷ n ∷ [])) ≤ 21 = line_few "%.% # %\n" (k ∷ j ∷ t ∷ n ∷ []) (h, (g, (f, tt))) in
      let two : length (line "%.% ## %\n" (k ∷ j ∷ t / 256 ∷ t ∷ n ∷ [])) ≤ 23 =
      line_few "%.% ## %\n" (k ∷ j ∷ t / 256 ∷ t ∷ n ∷ []) (h, (g, (f, tt))) in
      few_cond (ltb t 256) _ _ 25 (omega arith)
      (few_cond (ltb t 65536) _ _ 25 (omega arith) (line_few "%.% ### %\n" (k ∷ j ∷ t / 65536 ∷ t / 256 ∷ t ∷ n ∷ []) (h, (g, (f, tt)))))

  stop_few : (j r a : ℕ) → j < 100000 → r < 256 → a < 100000
      → length (cond (eqb r 11) [] (line "%.% refused % at %\n" (k ∷ j ∷ r ∷ a ∷ []))) ≤ 35
  unfolding takes_number
  stop_few j r a g f e =
      few_cond (eqb r 11) _ _ 35 (omega arith) (line_few "%.% refused % at %\n" (k ∷ j ∷ r ∷ a ∷ []) (h, (g, (omega (arith, f), (e, tt)))))

  -- a line for 12 needs a byte that starts an object
  stopped_few : (a : ℕ) (s : List ℕ) (j r : ℕ) → object_of Crate s ≡ refused r → a < 100000 → j < 100000
      → length (cond (eqb r 11) [] (line "%.% refused % at %\n" (k ∷ j ∷ r ∷ a ∷ []))) ≤ 26 + 13 * length s
  unfolding object_of tag_of
  stopped_few a [] j r e f g = let end : r ≡ 11 = cc in rw end (omega arith)
  stopped_few a (x ∷ s) j r e f g = omega (arith, stop_few j r a g (object_refusal_small (x ∷ s) r e) f)

  objects_few : (a : ℕ) (s : List ℕ) (j : ℕ) → a + length s < 100000 → j + length s < 100000
      → length (lines_from k j a s) ≤ 26 + 13 * length s
  objects_few =
      by_objects Crate (λ a s. (j : ℕ) → a + length s < 100000 → j + length s < 100000 → length (lines_from k j a s) ≤ 26 + 13 * length s)
      (λ a s e h j f g.
      rw (lines_stop k j a s e h) (stopped_few a s j e.number (crate_stop s e h).1 (omega (arith, f)) (omega (arith, g))))
      (λ a s o e w deeper j f g.
      let rest = lines_from k (j + 1) (a + size_of o) (drop (size_of o) s) in
      let few = deeper (j + 1) (omega (arith, f, w, length-drop (size_of o) s)) (omega (arith, g, w, length-drop (size_of o) s)) in
      rw (lines_next k j a s o e) (omega (
        arith,
        length-append (object_line k j o.tag o.len) rest,
        object_few j o.tag o.len (omega (arith, g)) (omega (arith, g, w)),
        few,
        w,
        length-drop (size_of o) s,
      )))

-- a section
item_few : (x : Section) (k : ℕ) (s : List ℕ) → k < 100000 → Bytes s → length s ≤ 60000 → length (item_text x k s) ≤ 26 + 13 * length s
unfolding item_text
item_few Commands k s h b l = command_few k h s b l
item_few Records k s h b l = rw (lines_first k s) (objects_few k h 0 s 1 (omega (arith, l)) (omega (arith, l)))

items_few : (x : Section) (k n : ℕ) (s : List ℕ) → k + n ≤ 100000 → Bytes s → length s ≤ 60000 → length (items_text x k (items n s)) ≤ 13 * items_size n s
unfolding items_text items items_size
items_few x k zero s h b l = omega arith
items_few x k (suc n) s h b l =
    let item = take (pair s) (drop 2 s) in
    let m = length-take (pair s) (drop 2 s) in
    let d = length-drop 2 s in
    let here = item_few x k item (omega (arith, h)) (bytes_take (pair s) (drop 2 s) (bytes_drop 2 s b)) (omega (arith, m, d, l)) in
    let there = items_few x (k + 1) n (drop (2 + pair s) s) (omega (arith, h)) (bytes_drop (2 + pair s) s b)
    (omega (arith, l, length-drop (2 + pair s) s)) in
    omega (arith, length-append (item_text x k item) (items_text x (k + 1) (items n (drop (2 + pair s) s))), here, m, there)

head_few : (x : Section) (n : ℕ) → n < 100000 → length (head_line x n) ≤ 15
unfolding takes_number
head_few Commands n h = line_few "commands %\n" (n ∷ []) (h, tt)
head_few Records n h = let l : length (head_line Records n) ≤ 14 = line_few "records %\n" (n ∷ []) (h, tt) in omega arith

section_few : (x : Section) (s : List ℕ) → Bytes s → length s ≤ 60000 → section_size s ≤ 60000
    → length (section_text x (items_at s)) ≤ 13 * section_size s
unfolding section_text section_size items_at
section_few x s b l h =
    let n = pair s in
    let t = items_size_least n (drop 2 s) in
    let i = items_few x 1 n (drop 2 s) (omega (arith, t, h)) (bytes_drop 2 s b) (omega (arith, l, length-drop 2 s)) in
    rw (items_counted n (drop 2 s)) (omega (
      arith,
      length-append (head_line x n) (items_text x 1 (items n (drop 2 s))),
      head_few x n (omega (arith, t, h)),
      i,
    ))

-- what a well-formed input is, in numbers
pub formed_is : (s : List ℕ) → well_formed s ≡ true → (length s ≤ 60000) × (section_size s + section_size (drop (section_size s) s) ≡ length s)
unfolding well_formed
formed_is s e =
    let p = both_true (leb (length s) 60000) (eqb (section_size s + section_size (drop (section_size s) s)) (length s)) e in
    (leb-true (length s) 60000 p.0, eqb-true (section_size s + section_size (drop (section_size s) s)) (length s) p.1)

-- every text fits in 780,000 bytes; that of a well-formed input is at most 13 times as long as the input
module _ (s : List ℕ) (b : Bytes s) where
  both_few : well_formed s ≡ true → length (section_text Commands (items_at s) ++ section_text Records (items_at (drop (section_size s) s))) ≤ 13 * length s
  both_few e =
      let f = formed_is s e in
      let m = section_size s in
      omega (
        arith,
        length-append (section_text Commands (items_at s)) (section_text Records (items_at (drop m s))),
        section_few Commands s b f.0 (omega (arith, f)),
        section_few Records (drop m s) (bytes_drop m s b) (omega (arith, f, length-drop m s)) (omega (arith, f)),
        f,
      )

  text_by : (x : Bool) → well_formed s ≡ x
      → length (cond x (section_text Commands (items_at s) ++ section_text Records (items_at (drop (section_size s) s))) (line "refused %\n" (20 ∷ [])))
      ≤ 780000
  unfolding takes_number
  text_by true e = omega (arith, both_few e, formed_is s e)
  text_by false e = let h : length (line "refused %\n" (20 ∷ [])) ≤ 14 = line_few "refused %\n" (20 ∷ []) (omega arith, tt) in omega arith

  pub text_few : length (text_of s) ≤ 780000
  unfolding text_of
  text_few = text_by (well_formed s) refl
