-- Laws of the sections of the input.
use Prim.Native.Nat.{ℕ, zero, suc, ◌+◌, ◌-◌, ◌*◌, ◌≤◌}
use mathlib.Core.Path.{◌≡◌, refl, sym, ap, ◌∙◌}
use mathlib.Core.List.{List, [], ◌∷◌}
use native.Mathlib.Nat.{add_assoc, add-sub_cancel_left}
use native.Mathlib.Omega.{arith}
use lib.ListN.{length, get_or, take, drop}
use lib.Seq.{get_or-drop, drop-drop}
use Rattle.listing.specs.Input.{pair, items, items_size, items_at, section_size}

-- two bytes at a place
pub pair_is : (s : List ℕ) (at : ℕ) → get_or s at 0 * 256 + get_or s (at + 1) 0 ≡ pair (drop at s)
unfolding pair
pair_is s at = let z : at + 0 ≡ at = omega arith in rw (get_or-drop at s 0 0, get_or-drop at s 1 0, z)

-- no item left
pub size_none : (s : List ℕ) (left : ℕ) → left ≡ 0 → items_size left s ≡ 0
unfolding items_size
size_none s zero h = refl
size_none s (suc left) h = absurd (omega arith)

pub items_none : (s : List ℕ) (left : ℕ) → left ≡ 0 → items left s ≡ []
unfolding items
items_none s zero h = refl
items_none s (suc left) h = absurd (omega arith)

-- an item of n bytes at a place, and those after it
module _ (s : List ℕ) (at n : ℕ) (e : n ≡ pair (drop at s)) where
  after_item : drop (2 + pair (drop at s)) (drop at s) ≡ drop (at + 2 + n) s
  after_item = rw e (drop-drop (2 + pair (drop at s)) at s ∙ ap (λ (i : ℕ). drop i s) (sym (add_assoc at 2 (pair (drop at s)))))

  module _ (left rest : ℕ) (h : left ≡ suc rest) where
    pub size_next : at + items_size left (drop at s) ≡ at + 2 + n + items_size rest (drop (at + 2 + n) s)
    unfolding items_size
    size_next = rw (h, after_item) (omega arith)

    pub items_next : items left (drop at s) ≡ take (at + 2 + n - (at + 2)) (drop (at + 2) s) ∷ items rest (drop (at + 2 + n) s)
    unfolding items
    items_next = rw (h, after_item, add-sub_cancel_left (at + 2) n, e, drop-drop 2 at s)

-- a section at a place: its count n, its items, of which there are as many as the count says, and its size
module _ (s : List ℕ) (at n : ℕ) (e : n ≡ pair (drop at s)) where
  pub section_is : at + section_size (drop at s) ≡ at + 2 + items_size n (drop (at + 2) s)
  unfolding section_size
  section_is = rw (e, drop-drop 2 at s) (omega arith)

  pub items_are : items_at (drop at s) ≡ items n (drop (at + 2) s)
  unfolding items_at
  items_are = rw (e, drop-drop 2 at s)

pub items_counted : (n : ℕ) (s : List ℕ) → length (items n s) ≡ n
unfolding items
items_counted zero s = refl
items_counted (suc n) s = ap suc (items_counted n (drop (2 + pair s) s))

-- each item takes the two bytes of its length
pub items_size_least : (n : ℕ) (s : List ℕ) → 2 * n ≤ items_size n s
unfolding items_size
items_size_least zero s = omega arith
items_size_least (suc n) s = omega (arith, items_size_least n (drop (2 + pair s) s))
