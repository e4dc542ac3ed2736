-- A tag is printed as its bytes in the record (rule 10.5).
use Prim.Native.Nat.{ℕ, ◌+◌, ◌-◌, ◌*◌, ◌/◌, ◌%◌, ◌≤◌, ◌<◌}
use mathlib.Core.Path.{◌≡◌, refl, sym, ap, ◌∙◌}
use mathlib.Core.List.{List, [], ◌∷◌, ◌++◌, append-nil, append_assoc}
use native.Mathlib.Nat.{add-zero}
use native.Mathlib.Omega.{arith}
use lib.Dec.{leb}
use lib.ListN.{length, get_or, take, drop}
use lib.Seq.{drop-drop, get_or-drop}
use Rattle.basis.specs.Every.{Every}
use Rattle.basis.specs.Number.{Bytes}
use Rattle.basis.specs.Reply.{Reply, ok, refused, then}
use Rattle.basis.proofs.Reply.{All, all_is, all_cond, all_then, all_every}
use Rattle.tlv.specs.Tag.{Tag, tag_of}
use Rattle.tlv.specs.Len.{len_of}
use Rattle.tlv.specs.Object.{Object, object_in, object_of, size_of}
use Rattle.tlv.specs.Walk.{walk}
use Rattle.tlv.specs.declared.Reading.TheVariants.{Crate}
use Rattle.tlv.proofs.Tags.{by_tag}
use Rattle.tlv.proofs.Within.{crate_item}
use Rattle.tlv.proofs.Walk.{walk_refused, walk_met, by_objects}
use Rattle.listing.specs.Text.{hex, form_text, takes_number, filled, line, object_line}
use Rattle.listing.proofs.LineLaws.{line_one, line_two, line_three}
use Rattle.listing_laws.specs.Tags.{hexes, Shown}

-- the line of an object whose tag is shown by the characters u
abbrev line_around : ℕ → ℕ → List ℕ → ℕ → List ℕ
line_around k j u n = line "%.% " (k ∷ j ∷ []) ++ (u ++ line " %\n" (n ∷ []))

-- the forms for a tag of one byte, two and three
module _ (k j n : ℕ) where
  line_one_byte : (a : ℕ) → line "%.% # %\n" (k ∷ j ∷ a ∷ n ∷ []) ≡ line_around k j (hex a) n
  unfolding filled form_text takes_number
  line_one_byte a = simp append_assoc

  line_two_bytes : (a b : ℕ) → line "%.% ## %\n" (k ∷ j ∷ a ∷ b ∷ n ∷ []) ≡ line_around k j (hex a ++ hex b) n
  unfolding filled form_text takes_number
  line_two_bytes a b = simp append_assoc

  line_three_bytes : (a b c : ℕ) → line "%.% ### %\n" (k ∷ j ∷ a ∷ b ∷ c ∷ n ∷ []) ≡ line_around k j (hex a ++ (hex b ++ hex c)) n
  unfolding filled form_text takes_number
  line_three_bytes a b c = simp append_assoc

-- two hexadecimal digits show the low byte
hex_low_byte : (a b : ℕ) → hex (a * 256 + b) ≡ hex b
unfolding hex
hex_low_byte a b =
    let high : (a * 256 + b) / 16 % 16 ≡ b / 16 % 16 = omega arith in
    let same_length : (a * 256 + b) % 16 ≡ b % 16 = omega arith in
    rw (high, same_length)

-- the line of an object with tag t shows the first n bytes of s
abbrev ShowsFront : List ℕ → ℕ → ℕ → Type 0
ShowsFront s t n = (k j m : ℕ) → object_line k j t m ≡ line_around k j (hexes (take n s)) m

one_byte : (k j m a : ℕ) → a < 256 → object_line k j a m ≡ line_around k j (hexes (a ∷ [])) m
unfolding hexes
one_byte k j m a h = sym (line_one k j a m h) ∙ line_one_byte k j m a ∙ ap (λ (u : List ℕ). line_around k j u m) (sym (append-nil (hex a)))

two_bytes : (k j m a b : ℕ) → a < 256 → b < 256 → a % 32 ≡ 31 → object_line k j (a * 256 + b) m ≡ line_around k j (hexes (a ∷ b ∷ [])) m
unfolding hexes
two_bytes k j m a b h g e =
    let t = a * 256 + b in
    let high : t / 256 ≡ a = omega arith in
    let same_length : hex (t / 256) ++ hex t ≡ hexes (a ∷ b ∷ []) = rw (high, hex_low_byte a b, append-nil) in
    sym (line_two k j t m (omega arith) (omega arith)) ∙ line_two_bytes k j m (t / 256) t
    ∙ ap (λ (u : List ℕ). line_around k j u m) same_length

three_bytes_lem : (k j m a b c : ℕ) → a < 256 → b < 256 → c < 256 → a % 32 ≡ 31
    → object_line k j ((a * 256 + b) * 256 + c) m ≡ line_around k j (hexes (a ∷ b ∷ c ∷ [])) m
unfolding hexes
three_bytes_lem k j m a b c h g f e =
    let t = (a * 256 + b) * 256 + c in
    let high : t / 65536 ≡ a = omega arith in
    let middle : t / 256 ≡ a * 256 + b = omega arith in
    let same_length : hex (t / 65536) ++ (hex (t / 256) ++ hex t) ≡ hexes (a ∷ b ∷ c ∷ []) = rw (high, middle, hex_low_byte a b, hex_low_byte (a * 256 + b) c, append-nil) in
    sym (line_three k j t m (omega arith)) ∙ line_three_bytes k j m (t / 65536) (t / 256) t
    ∙ ap (λ (u : List ℕ). line_around k j u m) same_length

-- the first bytes, if there are so many
front_one : (s : List ℕ) → 1 ≤ length s → take 1 s ≡ get_or s 0 0 ∷ []
front_one [] h = absurd (omega arith)
front_one (a ∷ s) h = refl

front_two : (s : List ℕ) → 2 ≤ length s → take 2 s ≡ get_or s 0 0 ∷ get_or s 1 0 ∷ []
front_two [] h = absurd (omega arith)
front_two (a ∷ s) h = ap (λ (l : List ℕ). a ∷ l) (front_one s (omega arith))

front_three : (s : List ℕ) → 3 ≤ length s → take 3 s ≡ get_or s 0 0 ∷ get_or s 1 0 ∷ get_or s 2 0 ∷ []
front_three [] h = absurd (omega arith)
front_three (a ∷ s) h = ap (λ (l : List ℕ). a ∷ l) (front_two s (omega arith))

tag_shows_front : (s : List ℕ) → Bytes s → All (λ t. ShowsFront s t.number t.size) (tag_of Crate s)
tag_shows_front s b =
    let a = get_or s 0 0 in
    by_tag Crate s (All (λ t. ShowsFront s t.number t.size)) (λ _. tt) (λ _. tt)
    (λ h _ k j m. one_byte k j m a (b 0) ∙ ap (λ (u : List ℕ). line_around k j (hexes u) m) (sym (front_one s h)))
    (λ q h _ k j m. two_bytes k j m a (get_or s 1 0) (b 0) (b 1) q ∙ ap (λ (u : List ℕ). line_around k j (hexes u) m) (sym (front_two s h)))
    (λ q h _ _ _ k j m. three_bytes_lem k j m a (get_or s 1 0) (get_or s 2 0) (b 0) (b 1) (b 2) q
    ∙ ap (λ (u : List ℕ). line_around k j (hexes u) m) (sym (front_three s h)))

-- the tag of the object at the front is read and shown so
record Front (s : List ℕ) (o : Object) : Type 0 where
  tag : Tag
  read : tag_of Crate s ≡ ok tag
  shows : ShowsFront s o.tag tag.size

module _ (s : List ℕ) (b : Bytes s) where
  in_tag : (x : Reply Tag) → tag_of Crate s ≡ x → All (Front s) (then x (λ t. then (len_of Crate (drop t.size s)) (object_in (length s) t)))
  in_tag (ok t) e =
      let shows = all_is (λ y. ShowsFront s y.number y.size) (tag_of Crate s) t (tag_shows_front s b) e in
      all_then (Front s) (λ l. Unit {0}) (len_of Crate (drop t.size s)) _
      (all_every (λ l. Unit {0}) (len_of Crate (drop t.size s)) (λ l. tt))
      (λ l _. all_cond (Front s) (leb l.number (length s - (t.size + l.size))) _ _ (λ _. record { tag = t; read = e; shows = shows }) (λ _. tt))
  in_tag (refused k) e = tt

  object_shows_front : (o : Object) → object_of Crate s ≡ ok o → Front s o
  unfolding object_of
  object_shows_front o e = all_is (Front s) (object_of Crate s) o (in_tag (tag_of Crate s) refl) e

-- and so is the tag of every object of a record
shown_from : (a : ℕ) (s : List ℕ) (w : List ℕ) → Bytes w → drop a w ≡ s → (k j : ℕ) → Every (Shown k j w) (walk Crate a s).items
shown_from =
    by_objects Crate (λ a s. (w : List ℕ) → Bytes w → drop a w ≡ s → (k j : ℕ) → Every (Shown k j w) (walk Crate a s).items)
    (λ a s r e w b q k j. rw (walk_refused Crate a s r e) tt)
    (λ a s o e w' deeper w b q k j.
    let small : Bytes s = λ i. rw (sym q) (omega (arith, b (a + i), get_or-drop a w i 0)) in
    let front = crate_item s o e in
    let f = object_shows_front s small _ front.1 in
    rw (walk_met Crate a s o e, front.0, add-zero) (
      record {
        tag = f.tag;
        read = ap (tag_of Crate) q ∙ f.read;
        text = f.shows k j o.len ∙ ap (λ (l : List ℕ). line_around k j (hexes (take f.tag.size l)) o.len) (sym q);
      },
      deeper w b (sym (drop-drop (size_of o) a w) ∙ ap (λ (l : List ℕ). drop (size_of o) l) q) k j,
    ))

pub tags_shown : (s : List ℕ) → Bytes s → (k j : ℕ) → Every (Shown k j s) (walk Crate 0 s).items
tags_shown s b k j = shown_from 0 s s b refl k j
