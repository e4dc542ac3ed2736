-- The table of the listed words: its entries are distinct, and a word is found at its own place and at no other (rule
-- 13.5).
use Prim.Native.Nat.{ℕ, zero, suc, ◌+◌, ◌≤◌, ◌<◌}
use mathlib.Core.Path.{◌≡◌, refl, sym, ap, subst, ◌∙◌}
use mathlib.Core.Bool.{Bool, true, false, cond}
use mathlib.Core.List.{List, [], ◌∷◌, map}
use mathlib.Core.Option.{Option, none, some}
use borrow.Author.Tests.{eq-eqb, ne_eqb, eqb-true, eqb-false, leb-true}
use native.Mathlib.Omega.{arith}
use lib.Dec.{eqb, leb}
use lib.ListN.{length, drop, get_or, drop_of_length-le}
use Rattle.basis.specs.Number.{number}
use Rattle.basis.proofs.Truth.{both_true}
use Rattle.response.specs.Status.{word_of, class_of, checking_error}
use Rattle.response.specs.Words.{table, listed_at, name_in, next, place_in, place_of, is_in, distinct}
use Rattle.response.specs.declared.words.ListedWord.{ListedWord}
use Rattle.response.specs.declared.status.Status.{Status}
use Rattle.response.proofs.Classes.{checking_67_6f}

-- past the end
abbrev nothing_listed : ListedWord
nothing_listed = record { word = 0; len = 0; letters = [] }

-- a place that is counted from entry i on
abbrev pub from : ℕ → Option ℕ → Option ℕ
from i none = none
from i (some k) = some (i + k)

from_zero : (o : Option ℕ) → from 0 o ≡ o
from_zero none = refl
from_zero (some k) = ap some (omega arith)

from_next : (i : ℕ) (o : Option ℕ) → from i (next o) ≡ from (suc i) o
from_next i none = refl
from_next i (some k) = ap some (omega arith)

-- the place of a word among the entries from i on, by entry i and those after it
module _ (w : ℕ) where
  place_here : (rs : List ListedWord) (i : ℕ) → i < length rs
      → place_in (drop i rs) w ≡ cond (eqb (get_or rs i nothing_listed).word w) (some 0) (next (place_in (drop (suc i) rs) w))
  unfolding place_in
  place_here [] i h = absurd (omega arith)
  place_here (r ∷ rs) zero h = refl
  place_here (r ∷ rs) (suc i) h = place_here rs i (omega arith)

  place_none : (rs : List ListedWord) (i : ℕ) → length rs ≤ i → place_in (drop i rs) w ≡ none
  unfolding place_in
  place_none rs i h = rw (drop_of_length-le rs {i = i} h)

-- a test of every entry, and of one
unfoldable pub all_listed : (ListedWord → Bool) → List ListedWord → Bool
all_listed f [] = true
all_listed f (r ∷ rs) = cond (f r) (all_listed f rs) false

pub at_place : (f : ListedWord → Bool) (rs : List ListedWord) (k : ℕ) → all_listed f rs ≡ true → k < length rs → f (get_or rs k nothing_listed) ≡ true
unfolding all_listed
at_place f [] k e h = absurd (omega arith)
at_place f (r ∷ rs) zero e h = (both_true (f r) (all_listed f rs) e).0
at_place f (r ∷ rs) (suc k) e h = at_place f rs k (both_true (f r) (all_listed f rs) e).1 (omega arith)

-- the table has 21 entries
pub table_length : length table ≡ 21
unfolding table
table_length = refl

-- the loop over the table: no entry before place i has the word w
module _ (w : ℕ) where
  abbrev pub NotBefore : ℕ → Type 0
  NotBefore i = (from i (place_in (drop i table) w) ≡ place_in table w) × (i ≤ 21)

  pub at_start : NotBefore 0
  at_start = (from_zero (place_in table w), omega arith)

  here : (i : ℕ) → i < 21 → place_in (drop i table) w ≡ cond (eqb (listed_at i).word w) (some 0) (next (place_in (drop (suc i) table) w))
  unfolding listed_at
  here i h = place_here w table i (omega (arith, table_length))

  pub found : (i : ℕ) → i < 21 → NotBefore i → (listed_at i).word ≡ w → place_in table w ≡ some i
  found i h n e = sym n.0 ∙ rw (here i h, eq-eqb (listed_at i).word w e) (ap some (omega arith))

  pub go_on : (i j : ℕ) → i < 21 → j ≡ i + 1 → NotBefore i → ((listed_at i).word ≡ w → ⊥) → NotBefore j
  go_on i j h e n f =
      let k : j ≡ suc i = omega arith in
      let skip : place_in (drop i table) w ≡ next (place_in (drop (suc i) table) w) = rw (here i h, ne_eqb (listed_at i).word w f) in
      (rw k (sym (from_next i (place_in (drop (suc i) table) w)) ∙ sym (ap (from i) skip) ∙ n.0), omega arith)

  pub not_found : (i : ℕ) → 21 ≤ i → NotBefore i → place_in table w ≡ none
  not_found i h n = sym n.0 ∙ ap (from i) (place_none w table i (omega (arith, table_length)))

-- a place that is found lies in the list, and has the word
module _ (w : ℕ) where
  abbrev Found : List ListedWord → Option ℕ → Type 0
  Found rs none = Unit {0}
  Found rs (some k) = (k < length rs) × ((get_or rs k nothing_listed).word ≡ w)

  found_next : (r : ListedWord) (rs : List ListedWord) (o : Option ℕ) → Found rs o → Found (r ∷ rs) (next o)
  found_next r rs none h = tt
  found_next r rs (some k) h = (omega (arith, h.0), h.1)

  found_by : (r : ListedWord) (rs : List ListedWord) (b : Bool) → eqb r.word w ≡ b → Found rs (place_in rs w) → Found (r ∷ rs) (cond b (some 0) (next (place_in rs w)))
  found_by r rs true e h = (omega arith, eqb-true r.word w e)
  found_by r rs false e h = found_next r rs (place_in rs w) h

  found_in : (rs : List ListedWord) → Found rs (place_in rs w)
  unfolding place_in
  found_in [] = tt
  found_in (r ∷ rs) = found_by r rs (eqb r.word w) refl (found_in rs)

  pub found_there : (k : ℕ) → place_in table w ≡ some k → (k < 21) × ((listed_at k).word ≡ w)
  unfolding listed_at
  found_there k e = let h : Found table (some k) = subst (Found table) e (found_in table) in (omega (arith, h.0, table_length), h.1)

-- an entry of the table has a name of at most 32 letters
short_names : all_listed (λ r. leb r.len 32) table ≡ true
unfolding all_listed table
short_names = refl

pub name_short : (k : ℕ) → k < 21 → (listed_at k).len ≤ 32
unfolding listed_at
name_short k h = leb-true (listed_at k).len 32 (at_place (λ r. leb r.len 32) table k short_names (omega (arith, table_length)))

-- a word that no entry has is not found
module _ (w : ℕ) where
  absent_in : (rs : List ListedWord) → ((k : ℕ) → k < length rs → (get_or rs k nothing_listed).word ≡ w → ⊥) → place_in rs w ≡ none
  unfolding place_in
  absent_in [] h = refl
  absent_in (r ∷ rs) h =
      rw (ne_eqb r.word w (h 0 (omega arith)), absent_in rs (λ k g e. h (suc k) (omega arith) e))

  pub not_listed : ((k : ℕ) → k < 21 → (listed_at k).word ≡ w → ⊥) → place_in table w ≡ none
  unfolding listed_at
  not_listed h = absent_in table (λ k g e. h k (omega (arith, table_length)) e)

-- the one test: the words of the table are distinct, and so are its names, as numbers
abbrev words : List ℕ
words = map (λ (r : ListedWord). r.word) table

pub words_distinct : distinct words ≡ true
unfolding table distinct is_in
words_distinct = refl

pub names_distinct : distinct (map (λ (r : ListedWord). number (name_in r)) table) ≡ true
unfolding table distinct is_in name_in number
names_distinct = refl

-- what a choice that came out so says of its test
neither : (a b : Bool) → cond a true b ≡ false → (a ≡ false) × (b ≡ false)
neither true b e = (e, cc)
neither false b e = (refl, e)

not_but : (a b : Bool) → cond a false b ≡ true → (a ≡ false) × (b ≡ true)
not_but true b e = (cc, cc)
not_but false b e = (refl, e)

-- entries that are distinct by f: two places with one entry are one place
module _ (f : ListedWord → ℕ) where
  not_in : (n : ℕ) (rs : List ListedWord) (k : ℕ) → is_in n (map f rs) ≡ false → k < length rs → f (get_or rs k nothing_listed) ≡ n → ⊥
  unfolding is_in
  not_in n [] k e h g = absurd (omega arith)
  not_in n (r ∷ rs) zero e h g = eqb-false (f r) n (neither (eqb (f r) n) (is_in n (map f rs)) e).0 g
  not_in n (r ∷ rs) (suc k) e h g = not_in n rs k (neither (eqb (f r) n) (is_in n (map f rs)) e).1 (omega arith) g

  same_place : (rs : List ListedWord) (j k : ℕ) → distinct (map f rs) ≡ true → j < length rs → k < length rs
      → f (get_or rs j nothing_listed) ≡ f (get_or rs k nothing_listed) → j ≡ k
  unfolding distinct
  same_place [] j k e h g q = absurd (omega arith)
  same_place (r ∷ rs) zero zero e h g q = refl
  same_place (r ∷ rs) zero (suc k) e h g q =
      absurd (not_in (f r) rs k (not_but (is_in (f r) (map f rs)) (distinct (map f rs)) e).0 (omega arith) (sym q))
  same_place (r ∷ rs) (suc j) zero e h g q =
      absurd (not_in (f r) rs j (not_but (is_in (f r) (map f rs)) (distinct (map f rs)) e).0 (omega arith) q)
  same_place (r ∷ rs) (suc j) (suc k) e h g q =
      ap suc (same_place rs j k (not_but (is_in (f r) (map f rs)) (distinct (map f rs)) e).1 (omega arith) (omega arith) q)

-- the word of entry k is found at k and nowhere else
own_place : (rs : List ListedWord) (k : ℕ) → distinct (map (λ (r : ListedWord). r.word) rs) ≡ true → k < length rs → place_in rs (get_or rs k nothing_listed).word ≡ some k
unfolding place_in distinct
own_place [] k e h = absurd (omega arith)
own_place (r ∷ rs) zero e h = rw (eq-eqb r.word r.word refl)
own_place (r ∷ rs) (suc k) e h =
    let w = (get_or rs k nothing_listed).word in
    let ws = map (λ (r : ListedWord). r.word) rs in
    let d = not_but (is_in r.word ws) (distinct ws) e in
    let other : eqb r.word w ≡ false = ne_eqb r.word w (λ g. not_in (λ r. r.word) r.word rs k d.0 (omega arith) (sym g)) in
    rw (other, own_place rs k d.1 (omega arith))

pub word_found : (k : ℕ) → k < 21 → place_in table (listed_at k).word ≡ some k
unfolding listed_at
word_found k h = own_place table k words_distinct (omega (arith, table_length))

-- no two entries have one name, and every name has a letter
pub name_once : (j k : ℕ) → j < 21 → k < 21 → name_in (listed_at j) ≡ name_in (listed_at k) → j ≡ k
unfolding listed_at
name_once j k h g e =
    same_place (λ r. number (name_in r)) table j k names_distinct (omega (arith, table_length)) (omega (arith, table_length)) (ap number e)

some_letters : all_listed (λ r. leb 1 (length (name_in r))) table ≡ true
unfolding all_listed table name_in
some_letters = refl

pub name_not_empty : (k : ℕ) → k < 21 → 1 ≤ length (name_in (listed_at k))
unfolding listed_at
name_not_empty k h =
    leb-true 1 (length (name_in (listed_at k))) (at_place (λ r. leb 1 (length (name_in r))) table k some_letters (omega (arith, table_length)))

-- every listed word is a checking error
words_67_6f : all_listed (λ r. cond (leb 0x6700 r.word) (leb r.word 0x6FFF) false) table ≡ true
unfolding all_listed table
words_67_6f = refl

word_67_6f : (k : ℕ) → k < 21 → (0x6700 ≤ (listed_at k).word) × ((listed_at k).word ≤ 0x6FFF)
unfolding listed_at
word_67_6f k h =
    let w = (listed_at k).word in
    let both = both_true (leb 0x6700 w) (leb w 0x6FFF) (at_place _ table k words_67_6f (omega (arith, table_length))) in
    (leb-true 0x6700 w both.0, leb-true w 0x6FFF both.1)

pub listed_checking : (t : Status) (k : ℕ) → t.sw2 < 256 → place_of t ≡ some k → class_of t ≡ checking_error
unfolding place_of word_of
listed_checking t k h e =
    let there = found_there (word_of t) k e in
    let range = word_67_6f k there.0 in
    checking_67_6f t (omega (arith, range.0, there.1)) (omega (arith, range.1, there.1))
