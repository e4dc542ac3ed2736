-- The inputs that are listed are exactly those that two sections are written out as, with these items. Rules 10.1 and
-- 10.2.
use Prim.Native.Nat.{ℕ, zero, suc, ◌+◌, ◌*◌, ◌/◌, ◌%◌, ◌≤◌, ◌<◌}
use mathlib.Core.Path.{◌≡◌, refl, sym, ap, ◌∙◌}
use mathlib.Core.Bool.{Bool, true, false, cond}
use mathlib.Core.List.{List, [], ◌∷◌, ◌++◌, append-nil, append_assoc}
use native.Mathlib.Omega.{arith}
use lib.ListN.{length, take, drop, length-append, length-drop, take-append-drop, drop_of_length-le}
use lib.Seq.{take_at, drop_at, drop-drop, length-take-le}
use borrow.Author.Tests.{le-leb, eq-eqb}
use Rattle.basis.specs.Number.{Bytes, be}
use Rattle.basis.proofs.Number.{length_be, bytes_drop}
use Rattle.basis.specs.Ascii.{ascii}
use Rattle.listing.specs.Input.{pair, items, items_size, items_at, section_size, well_formed}
use Rattle.listing.specs.Text.{hex_digit, digits, decimal, form_text, takes_number, filled, line, section_text, text_of}
use Rattle.listing.specs.declared.lines.Section.TheVariants.{Commands, Records}
use Rattle.listing.proofs.Longest.{formed_is}
use Rattle.listing.proofs.Sections.{items_counted}
use Rattle.listing_laws.specs.Encoded.{items_bytes, section_bytes, input_bytes}

-- the two bytes of a number, and others after them
pair_be : (n : ℕ) (l : List ℕ) → n < 65536 → pair (be 2 n ++ l) ≡ n
unfolding pair be
pair_be n l h = omega arith

drop_be : (n : ℕ) (l : List ℕ) → drop 2 (be 2 n ++ l) ≡ l
unfolding be
drop_be n l = refl

-- an item at the front, after its length
module _ (s x l : List ℕ) (e : pair s ≡ length x) (f : drop 2 s ≡ x ++ l) where
  first_item : take (pair s) (drop 2 s) ≡ x
  first_item = ap (λ (r : List ℕ). take (pair s) r) f ∙ take_at x l (pair s) (sym e)

  after_item : drop (2 + pair s) s ≡ l
  after_item = sym (drop-drop (pair s) 2 s) ∙ ap (λ (r : List ℕ). drop (pair s) r) f ∙ drop_at x l (pair s) (sym e)

  one_item : (k : ℕ) → items (suc k) s ≡ x ∷ items k l
  unfolding items
  one_item k = rw (first_item, after_item)

  one_size : (k : ℕ) → items_size (suc k) s ≡ 2 + length x + items_size k l
  unfolding items_size
  one_size k = rw (after_item, e)

-- items that are written out are read back
module _ (l : List ℕ) where
  items_length : (x : List ℕ) (xs : List (List ℕ)) → length (items_bytes (x ∷ xs)) ≡ 2 + length x + length (items_bytes xs)
  unfolding items_bytes
  items_length x xs =
      omega (
        arith,
        length-append (be 2 (length x)) (x ++ items_bytes xs),
        length_be 2 (length x),
        length-append x (items_bytes xs),
      )

  item_pair : (x : List ℕ) (xs : List (List ℕ)) → length (items_bytes (x ∷ xs)) < 65536 → pair (items_bytes (x ∷ xs) ++ l) ≡ length x
  unfolding items_bytes
  item_pair x xs h =
      ap pair (append_assoc (be 2 (length x)) (x ++ items_bytes xs) l) ∙ pair_be (length x) ((x ++ items_bytes xs) ++ l) (omega (arith, h, items_length x xs))

  item_rest : (x : List ℕ) (xs : List (List ℕ)) → drop 2 (items_bytes (x ∷ xs) ++ l) ≡ x ++ (items_bytes xs ++ l)
  unfolding items_bytes
  item_rest x xs =
      ap (λ (r : List ℕ). drop 2 r) (append_assoc (be 2 (length x)) (x ++ items_bytes xs) l)
      ∙ drop_be (length x) ((x ++ items_bytes xs) ++ l) ∙ append_assoc x (items_bytes xs) l

  items_read : (xs : List (List ℕ)) → length (items_bytes xs) < 65536 → items (length xs) (items_bytes xs ++ l) ≡ xs
  unfolding items
  items_read [] h = refl
  items_read (x ∷ xs) h =
      one_item (items_bytes (x ∷ xs) ++ l) x (items_bytes xs ++ l) (item_pair x xs h) (item_rest x xs) (length xs)
      ∙ ap (λ (r : List (List ℕ)). x ∷ r) (items_read xs (omega (arith, h, items_length x xs)))

  items_size_lem : (xs : List (List ℕ)) → length (items_bytes xs) < 65536 → items_size (length xs) (items_bytes xs ++ l) ≡ length (items_bytes xs)
  unfolding items_size items_bytes
  items_size_lem [] h = refl
  items_size_lem (x ∷ xs) h =
      one_size (items_bytes (x ∷ xs) ++ l) x (items_bytes xs ++ l) (item_pair x xs h) (item_rest x xs) (length xs)
      ∙ omega (arith, items_size_lem xs (omega (arith, h, items_length x xs)), items_length x xs)

  items_size_least : (xs : List (List ℕ)) → 2 * length xs ≤ length (items_bytes xs)
  items_size_least [] = omega arith
  items_size_least (x ∷ xs) = omega (arith, items_size_least xs, items_length x xs)

-- so are the items of a section
module _ (xs : List (List ℕ)) (l : List ℕ) (h : length (section_bytes xs) ≤ 60000) where
  section_long : length (section_bytes xs) ≡ 2 + length (items_bytes xs)
  unfolding section_bytes
  section_long = omega (arith, length-append (be 2 (length xs)) (items_bytes xs), length_be 2 (length xs))

  count : pair (section_bytes xs ++ l) ≡ length xs
  unfolding section_bytes
  count =
      ap pair (append_assoc (be 2 (length xs)) (items_bytes xs) l)
      ∙ pair_be (length xs) (items_bytes xs ++ l) (omega (arith, h, section_long, items_size_least l xs))

  rest : drop 2 (section_bytes xs ++ l) ≡ items_bytes xs ++ l
  unfolding section_bytes
  rest = ap (λ (r : List ℕ). drop 2 r) (append_assoc (be 2 (length xs)) (items_bytes xs) l) ∙ drop_be (length xs) (items_bytes xs ++ l)

  section_items : items_at (section_bytes xs ++ l) ≡ xs
  unfolding items_at
  section_items = rw (count, rest) (items_read l xs (omega (arith, h, section_long)))

  section_size_lem : section_size (section_bytes xs ++ l) ≡ length (section_bytes xs)
  unfolding section_size
  section_size_lem = rw (count, rest) (omega (arith, items_size_lem l xs (omega (arith, h, section_long)), section_long))

  section_after : drop (section_size (section_bytes xs ++ l)) (section_bytes xs ++ l) ≡ l
  section_after = drop_at (section_bytes xs) l (section_size (section_bytes xs ++ l)) (sym section_size_lem)

-- an input that two sections are written out as: its items, its form and its text
module _ (cs rs : List (List ℕ)) (h : length (input_bytes cs rs) ≤ 60000) where
  both_long : length (input_bytes cs rs) ≡ length (section_bytes cs) + length (section_bytes rs)
  both_long = length-append (section_bytes cs) (section_bytes rs)

  after_first : drop (section_size (input_bytes cs rs)) (input_bytes cs rs) ≡ section_bytes rs ++ []
  after_first = section_after cs (section_bytes rs) (omega (arith, h, both_long)) ∙ sym (append-nil (section_bytes rs))

  pub commands_read : items_at (input_bytes cs rs) ≡ cs
  commands_read = section_items cs (section_bytes rs) (omega (arith, h, both_long))

  pub records_read : items_at (drop (section_size (input_bytes cs rs)) (input_bytes cs rs)) ≡ rs
  records_read = ap items_at after_first ∙ section_items rs [] (omega (arith, h, both_long))

  sizes : section_size (input_bytes cs rs) + section_size (drop (section_size (input_bytes cs rs)) (input_bytes cs rs)) ≡ length (input_bytes cs rs)
  sizes =
      omega (
        arith,
        section_size_lem cs (section_bytes rs) (omega (arith, h, both_long)),
        ap section_size after_first ∙ section_size_lem rs [] (omega (arith, h, both_long)),
        both_long,
      )

  pub written_formed : well_formed (input_bytes cs rs) ≡ true
  unfolding well_formed
  written_formed = rw (le-leb (length (input_bytes cs rs)) 60000 h) (eq-eqb _ _ sizes)

  pub text_written : text_of (input_bytes cs rs) ≡ section_text Commands cs ++ section_text Records rs
  unfolding text_of
  text_written = rw (written_formed, commands_read, records_read)

-- and every well-formed input is written out so: two bytes, items, a section
two_bytes : (s : List ℕ) → Bytes s → 2 ≤ length s → be 2 (pair s) ++ drop 2 s ≡ s
unfolding be pair
two_bytes [] b h = absurd (omega arith)
two_bytes (x ∷ []) b h = absurd (omega arith)
two_bytes (x ∷ y ∷ s) b h =
    let one : x < 256 = b 0 in
    let two : y < 256 = b 1 in
    let high : (x * 256 + y) / 256 % 256 ≡ x = omega arith in
    let low : (x * 256 + y) % 256 ≡ y = omega arith in
    rw (high, low)

items_back : (n : ℕ) (s : List ℕ) → Bytes s → items_size n s ≤ length s → items_bytes (items n s) ++ drop (items_size n s) s ≡ s
unfolding items items_size items_bytes
items_back zero s b h = refl
items_back (suc n) s b h =
    let p = pair s in
    let x = take p (drop 2 s) in
    let t = drop (2 + p) s in
    let m = items_size n t in
    let inner : length x ≡ p = length-take-le p (drop 2 s) (omega (arith, h, length-drop 2 s)) in
    let deeper : items_bytes (items n t) ++ drop m t ≡ t = items_back n t (bytes_drop (2 + p) s b) (omega (arith, h, length-drop (2 + p) s)) in
    let joined : x ++ t ≡ drop 2 s = ap (λ (r : List ℕ). x ++ r) (sym (drop-drop p 2 s)) ∙ take-append-drop p (drop 2 s) in
    append_assoc (be 2 (length x)) (x ++ items_bytes (items n t)) (drop (2 + p + m) s)
    ∙ ap (λ (r : List ℕ). be 2 (length x) ++ r)
    (append_assoc x (items_bytes (items n t)) (drop (2 + p + m) s)
    ∙ ap (λ (r : List ℕ). x ++ (items_bytes (items n t) ++ r)) (sym (drop-drop m (2 + p) s)) ∙ ap (λ (r : List ℕ). x ++ r) deeper ∙ joined)
    ∙ ap (λ (k : ℕ). be 2 k ++ drop 2 s) inner ∙ two_bytes s b (omega (arith, h))

section_back : (s : List ℕ) → Bytes s → section_size s ≤ length s → section_bytes (items_at s) ++ drop (section_size s) s ≡ s
unfolding section_bytes items_at section_size
section_back s b h =
    let n = pair s in
    let m = items_size n (drop 2 s) in
    append_assoc (be 2 (length (items n (drop 2 s)))) (items_bytes (items n (drop 2 s))) (drop (2 + m) s)
    ∙ ap (λ (r : List ℕ). be 2 (length (items n (drop 2 s))) ++ r)
    (ap (λ (r : List ℕ). items_bytes (items n (drop 2 s)) ++ r) (sym (drop-drop m 2 s))
    ∙ items_back n (drop 2 s) (bytes_drop 2 s b) (omega (arith, h, length-drop 2 s)))
    ∙ ap (λ (k : ℕ). be 2 k ++ drop 2 s) (items_counted n (drop 2 s)) ∙ two_bytes s b (omega (arith, h))

pub formed_written : (s : List ℕ) → Bytes s → well_formed s ≡ true
    → (length s ≤ 60000) × (s ≡ input_bytes (items_at s) (items_at (drop (section_size s) s)))
formed_written s b e =
    let f = formed_is s e in
    let m = section_size s in
    let t = drop m s in
    let none : drop (section_size t) t ≡ [] = drop_of_length-le t {i = section_size t} (omega (arith, f, length-drop m s)) in
    let second : section_bytes (items_at t) ≡ t =
    sym (append-nil (section_bytes (items_at t))) ∙ ap (λ (r : List ℕ). section_bytes (items_at t) ++ r) (sym none)
    ∙ section_back t (bytes_drop m s b) (omega (arith, f, length-drop m s)) in
    (f.0, sym (ap (λ (r : List ℕ). section_bytes (items_at s) ++ r) second ∙ section_back s b (omega (arith, f))))

-- bytes that no two sections are written out as, and more than 60,000 bytes, are refused with 20 (rule 10.2)
pub text_refused : (s : List ℕ) → Bytes s → ((cs rs : List (List ℕ)) → length s ≤ 60000 → s ≡ input_bytes cs rs → ⊥)
    → text_of s ≡ ascii "refused 20\n"
unfolding text_of filled form_text takes_number decimal digits hex_digit
text_refused s b h = by (well_formed s) refl
  where
    by : (x : Bool) → well_formed s ≡ x
        → cond x (section_text Commands (items_at s) ++ section_text Records (items_at (drop (section_size s) s))) (line "refused %\n" (20 ∷ []))
        ≡ ascii "refused 20\n"
    by true e = let f = formed_written s b e in absurd (h (items_at s) (items_at (drop (section_size s) s)) f.0 f.1)
    by false e = refl
