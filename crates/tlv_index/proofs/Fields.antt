-- A number in some bytes at a place of a file, byte by byte.
use Prim.Native.Nat.{ℕ, zero, suc, ◌+◌, ◌*◌, ◌/◌, ◌%◌, ◌^◌, ◌≤◌, ◌<◌}
use mathlib.Core.Path.{◌≡◌, refl, ap, ◌∙◌}
use mathlib.Core.List.{List, [], ◌∷◌, append_assoc}
use native.Mathlib.Numerals.{add-one}
use native.Mathlib.Omega.{arith}
use lib.ListN.{length, take, drop, set, get_or, length-drop, take-append-drop}
use lib.Seq.{take-suc, get_or-drop, sets-eq}
use native.Mathlib.Nat.{add-zero}
use Rattle.basis.specs.Number.{be, number}
use Rattle.basis.specs.Over.{over_at}
use Rattle.basis.proofs.Number.{number_snoc, length_be}
use Rattle.basis.proofs.Over.{over_at_before}
use Rattle.tlv_index.specs.File.{field}

-- a number read from no bytes, and from one byte more
pub field_none : (a : ℕ) (f : List ℕ) → field 0 a f ≡ 0
unfolding field number
field_none a f = refl

pub field_next : (k a : ℕ) (f : List ℕ) → a + k < length f → field (k + 1) a f ≡ field k a f * 256 + get_or f (a + k) 0
unfolding field
field_next k a f h =
    rw (add-one k, take-suc (drop a f) k 0 (omega (arith, length-drop a f)), number_snoc, get_or-drop a f k 0)

-- a number of at most two bytes, and one byte more, does not overflow
pub few_bytes : (k : ℕ) → k ≤ 2 → 256 ^ k ≤ 65536
few_bytes zero h = omega arith
few_bytes (suc zero) h = omega arith
few_bytes (suc (suc zero)) h = omega arith
few_bytes (suc (suc (suc k))) h = absurd (omega arith)

-- a number written as no bytes, and its last byte written before the others
pub put_none : (a n : ℕ) (f : List ℕ) → over_at a (be 0 n) f ≡ f
unfolding over_at be
put_none a n f = rw add-zero (take-append-drop a f)

stored_at : (a b : ℕ) (f : List ℕ) → a < length f → set f a b ≡ over_at a (b ∷ []) f
unfolding over_at
stored_at a b f h = sets-eq (b ∷ []) f a (omega arith) ∙ append_assoc (take a f) (b ∷ []) (drop (a + 1) f)

pub put_last : (k a n place : ℕ) (f : List ℕ) → place ≡ a + k → a + k < length f
    → over_at a (be k (n / 256)) (set f place (n % 256)) ≡ over_at a (be (k + 1) n) f
unfolding be
put_last k a n place f e h =
    let u = be k (n / 256) in
    let v : List ℕ = n % 256 ∷ [] in
    let size : length u ≡ k = length_be k (n / 256) in
    let there : a + k ≡ a + length u = omega arith in
    rw (e, add-one k) (ap (over_at a u) (stored_at (a + k) (n % 256) f h) ∙ ap (λ p. over_at a u (over_at p v f)) there
    ∙ over_at_before a u v f (omega (arith, size)))

-- numbers of two and of three bytes
pub field_two : (f : List ℕ) (a : ℕ) → a + 2 ≤ length f → field 2 a f ≡ get_or f a 0 * 256 + get_or f (a + 1) 0
field_two f a h =
    let first : field 1 a f ≡ field 0 a f * 256 + get_or f a 0 = let none : a + 0 ≡ a = omega arith in rw none at (field_next 0 a f (omega arith)) in
    omega (arith, field_next 1 a f (omega arith), first, field_none a f)

pub field_three : (f : List ℕ) (a : ℕ) → a + 3 ≤ length f
    → field 3 a f ≡ (get_or f a 0 * 256 + get_or f (a + 1) 0) * 256 + get_or f (a + 2) 0
field_three f a h = omega (arith, field_next 2 a f (omega arith), field_two f a (omega arith))
