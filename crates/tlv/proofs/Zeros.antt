-- Padding lies in front of some bytes, and after it there is no more (rules 16.1 and 16.2).
use Prim.Native.Nat.{ℕ, suc, ◌+◌, ◌≤◌, ◌<◌}
use mathlib.Core.Path.{◌≡◌, refl, sym, ap, ◌∙◌}
use mathlib.Core.List.{List, [], ◌∷◌}
use native.Mathlib.Decide.{dec_le}
use native.Mathlib.Omega.{arith}
use lib.Dec.{leb, eqb}
use lib.ListN.{length, get_or, drop, drop_of_length-le}
use lib.Seq.{drop-cons}
use native.Mathlib.Numerals.{add-one}
use borrow.Author.Tests.{eq-eqb, ne_eqb, le-leb}
use Rattle.basis.proofs.Truth.{on_cond}
use Rattle.tlv.specs.Padding.{zeros, padding}
use Rattle.tlv.specs.declared.Reading.{Reading}
use Rattle.tlv.specs.declared.Reading.TheVariants.{Crate, Standard}

-- a zero byte in front is counted, and any other byte ends the count
pub zero_first : (b : ℕ) (s : List ℕ) → b ≡ 0 → zeros (b ∷ s) ≡ suc (zeros s)
unfolding zeros
zero_first b s e = rw (eq-eqb b 0 e)

pub other_first : (b : ℕ) (s : List ℕ) → (b ≡ 0 → ⊥) → zeros (b ∷ s) ≡ 0
unfolding zeros
other_first b s n = rw (ne_eqb b 0 n)

pub zeros_nothing : zeros [] ≡ 0
unfolding zeros
zeros_nothing = refl

-- whether there is one in front: the first byte tells
pub zeros_by_first : (s : List ℕ) → 1 ≤ length s → leb 1 (zeros s) ≡ eqb (get_or s 0 0) 0
unfolding zeros
zeros_by_first [] h = absurd (omega arith)
zeros_by_first (b ∷ s) h =
    on_cond (λ n. leb 1 n ≡ eqb b 0) (eqb b 0) _ _ (λ e. le-leb 1 (suc (zeros s)) (omega arith) ∙ sym e) (λ e. sym e)

pub first_zero : (s : List ℕ) → 1 ≤ zeros s → (get_or s 0 0 ≡ 0) × (1 ≤ length s)
first_zero [] h = absurd (omega (arith, h, zeros_nothing))
first_zero (b ∷ s) h =
    elim (dec_le 1 b) [ yes g ↦ absurd (omega (arith, h, other_first b s (λ z. omega (arith, g, z)))) | no g ↦ (omega (arith, g), omega arith) ]

pub first_not_zero : (s : List ℕ) → 1 ≤ length s → zeros s ≡ 0 → 1 ≤ get_or s 0 0
first_not_zero [] h e = absurd (omega arith)
first_not_zero (b ∷ s) h e =
    elim (dec_le 1 b) [ yes g ↦ g | no g ↦ absurd (omega (arith, e, zero_first b s (omega (arith, g)))) ]

pub zeros_of_none : (s : List ℕ) → length s < 1 → zeros s ≡ 0
zeros_of_none [] h = zeros_nothing
zeros_of_none (b ∷ s) h = absurd (omega arith)

-- the count from place i on: at a zero byte, at another byte, and at the end
pub at_zero : (s : List ℕ) (i : ℕ) → i < length s → get_or s i 0 ≡ 0 → zeros (drop i s) ≡ suc (zeros (drop (i + 1) s))
at_zero s i h e = rw (drop-cons s i 0 h, add-one i) (zero_first (get_or s i 0) (drop (suc i) s) e)

pub at_other : (s : List ℕ) (i : ℕ) → i < length s → (get_or s i 0 ≡ 0 → ⊥) → zeros (drop i s) ≡ 0
at_other s i h n = rw (drop-cons s i 0 h) (other_first (get_or s i 0) (drop (suc i) s) n)

pub at_end : (s : List ℕ) (i : ℕ) → length s ≤ i → zeros (drop i s) ≡ 0
at_end s i h = ap zeros (drop_of_length-le s {i = i} h) ∙ zeros_nothing

zeros_within : (s : List ℕ) → zeros s ≤ length s
unfolding zeros
zeros_within [] = omega arith
zeros_within (b ∷ s) =
    on_cond (λ n. n ≤ suc (length s)) (eqb b 0) _ _ (λ _. omega (arith, zeros_within s)) (λ _. omega arith)

zeros_once : (s : List ℕ) → zeros (drop (zeros s) s) ≡ 0
unfolding zeros
zeros_once [] = refl
zeros_once (b ∷ s) =
    on_cond (λ n. zeros (drop n (b ∷ s)) ≡ 0) (eqb b 0) _ _ (λ _. zeros_once s) (λ e. rw e)

-- padding lies within the bytes; after it there is none
pub padding_within : (r : Reading) (s : List ℕ) → padding r s ≤ length s
unfolding padding
padding_within Crate s = omega arith
padding_within Standard s = zeros_within s

pub padding_once : (r : Reading) (s : List ℕ) → padding r (drop (padding r s) s) ≡ 0
unfolding padding
padding_once Crate s = refl
padding_once Standard s = zeros_once s

-- none in the crate reading (rule 16.2)
pub crate_padding : (s : List ℕ) → padding Crate s ≡ 0
unfolding padding
crate_padding s = refl

pub standard_padding : (s : List ℕ) → padding Standard s ≡ zeros s
unfolding padding
standard_padding s = refl

-- from no bytes
pub padding_nothing : (r : Reading) → padding r [] ≡ 0
padding_nothing r = let w = padding_within r [] in omega (arith, w)
