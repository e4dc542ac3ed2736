-- Laws of the lengths of a body: what it is read as in each case, and that a command is as long as its fields.
use Prim.Native.Nat.{ℕ, zero, suc, ◌+◌, ◌≤◌}
use mathlib.Core.Path.{◌≡◌, refl, sym}
use mathlib.Core.Bool.{true, false}
use mathlib.Core.List.{List}
use native.Mathlib.Omega.{arith}
use native.Nat.{ℕᴺ_discrete}
use borrow.Author.Tests.{eqb-true, eq-eqb, ne_eqb}
use lib.Dec.{eqb}
use lib.ListN.{length}
use Rattle.basis.specs.Reply.{refused}
use Rattle.basis.proofs.Reply.{All, all_cond}
use Rattle.class.specs.declared.Class.{Class}
use Rattle.class.specs.declared.Reading.{Reading}
use Rattle.class.specs.declared.Reading.TheVariants.{Crate, Standard}
use Rattle.command.specs.Body.{lengths, or_most, byte, pair, short_body, long_body, extended_body, extended_by_standard, extended_of, body_of}
use Rattle.command.specs.Command.{view_of, lc_bytes, le_bytes, Measured}
use Rattle.command.specs.declared.body.ParsedLengths.{ParsedLengths}

-- a body of two bytes or more, by its first byte
module _ (r : Reading) (s : List ℕ) (l : 2 ≤ length s) where
  pub first_byte_zero : byte s 0 ≡ 0 → body_of r s ≡ extended_of r s
  unfolding body_of
  first_byte_zero z = rw (ne_eqb (length s) 0 (omega arith), ne_eqb (length s) 1 (omega arith), eq-eqb (byte s 0) 0 z)

  pub first_byte_other : (byte s 0 ≡ 0 → ⊥) → body_of r s ≡ short_body (byte s 0) s
  unfolding body_of
  first_byte_other z = rw (ne_eqb (length s) 0 (omega arith), ne_eqb (length s) 1 (omega arith), ne_eqb (byte s 0) 0 z)

-- n data bytes alone, with Le, and a length that fits neither
module _ (n : ℕ) (s : List ℕ) where
  pub short_alone : length s ≡ 1 + n → short_body n s ≡ lengths 1 n 0 false
  unfolding short_body
  short_alone l = rw (eq-eqb (length s) (1 + n) l)

  pub short_with_le : length s ≡ 2 + n → short_body n s ≡ lengths 1 n (or_most 256 (byte s (1 + n))) false
  unfolding short_body
  short_with_le l = rw (ne_eqb (length s) (1 + n) (omega arith), eq-eqb (length s) (2 + n) l)

  pub short_other : (length s ≡ 1 + n → ⊥) → (length s ≡ 2 + n → ⊥) → short_body n s ≡ refused 4
  unfolding short_body
  short_other h g = rw (ne_eqb (length s) (1 + n) h, ne_eqb (length s) (2 + n) g)

  pub long_alone : length s ≡ 3 + n → long_body n s ≡ lengths 3 n 0 true
  unfolding long_body
  long_alone l = rw (eq-eqb (length s) (3 + n) l)

  pub long_with_le : length s ≡ 5 + n → long_body n s ≡ lengths 3 n (or_most 65536 (pair s (3 + n))) true
  unfolding long_body
  long_with_le l = rw (ne_eqb (length s) (3 + n) (omega arith), eq-eqb (length s) (5 + n) l)

  pub long_other : (length s ≡ 3 + n → ⊥) → (length s ≡ 5 + n → ⊥) → long_body n s ≡ refused 5
  unfolding long_body
  long_other h g = rw (ne_eqb (length s) (3 + n) h, ne_eqb (length s) (5 + n) g)

-- of more than three bytes, the first three are an extended Lc
pub extended_with_data : (s : List ℕ) → 4 ≤ length s → extended_body s ≡ long_body (pair s 1) s
unfolding extended_body
extended_with_data s l = rw (ne_eqb (length s) 2 (omega arith), ne_eqb (length s) 3 (omega arith))

-- a first byte 0 in the standard reading: 21 if Le follows an Lc of zero, else as in the crate reading
pub standard_zero_lc : (s : List ℕ) → length s ≡ 5 → pair s 1 ≡ 0 → refused 21 ≡ extended_by_standard s
unfolding extended_by_standard
standard_zero_lc s l p =
    rw (ne_eqb (length s) 3 (omega arith), ne_eqb (length s) 2 (omega arith), eq-eqb (pair s 1) 0 p, eq-eqb (length s) 5 l)

pub standard_as_crate : (s : List ℕ) → (length s ≡ 5 → pair s 1 ≡ 0 → ⊥) → extended_body s ≡ extended_by_standard s
unfolding extended_body extended_by_standard
standard_as_crate s h =
    elim (ℕᴺ_discrete (length s) 3) [
      | yes l ↦ rw (ne_eqb (length s) 2 (omega arith), eq-eqb (length s) 3 l)
      | no l ↦
          elim (ℕᴺ_discrete (pair s 1) 0) [
            | yes p ↦
                let k : length s ≡ 5 → ⊥ = λ k. h k p in
                rw (ne_eqb (length s) 3 l, eq-eqb (pair s 1) 0 p, ne_eqb (length s) 5 k)
                (rw (long_other (pair s 1) s (omega arith) (omega arith)))
            | no p ↦ rw (ne_eqb (length s) 3 l, ne_eqb (pair s 1) 0 p)
          ]
    ]

-- in either reading, a first byte 0 without an Lc of zero and Le
pub readings_agree : (r : Reading) (s : List ℕ) → (length s ≡ 5 → pair s 1 ≡ 0 → ⊥) → extended_of r s ≡ extended_body s
readings_agree Crate s h = refl
readings_agree Standard s h = sym (standard_as_crate s h)

-- an Le that is written is never read as zero
not_zero : (most n : ℕ) → 1 ≤ most → eqb (or_most most n) 0 ≡ false
not_zero most zero h = ne_eqb most 0 (omega arith)
not_zero most (suc n) h = ne_eqb (suc n) 0 (omega arith)

-- a header of four bytes and this body are as long as the fields that are read
abbrev pub Sized : List ℕ → ParsedLengths → Type 0
Sized s b = (c : Class) (t : List ℕ) → Measured (4 + length s) (view_of c t b)

short_sized : (n : ℕ) (s : List ℕ) → All (Sized s) (short_body n s)
unfolding short_body lc_bytes le_bytes
short_sized n s =
    all_cond (Sized s) (eqb (length s) (1 + n)) _ _
    (λ e c t. record { start = refl; whole = omega (arith, eqb-true (length s) (1 + n) e) })
    (λ d.
    all_cond (Sized s) (eqb (length s) (2 + n)) _ _
    (λ e c t. record { start = refl; whole = rw (not_zero 256 (byte s (1 + n)) (omega arith)) (omega (arith, eqb-true (length s) (2 + n) e)) })
    (λ e. tt))

long_sized : (n : ℕ) (s : List ℕ) → All (Sized s) (long_body n s)
unfolding long_body lc_bytes le_bytes
long_sized n s =
    all_cond (Sized s) (eqb (length s) (3 + n)) _ _
    (λ e c t. record { start = refl; whole = omega (arith, eqb-true (length s) (3 + n) e) })
    (λ d.
    all_cond (Sized s) (eqb (length s) (5 + n)) _ _
    (λ e c t. record { start = refl; whole = rw (not_zero 65536 (pair s (3 + n)) (omega arith)) (omega (arith, eqb-true (length s) (5 + n) e)) })
    (λ e. tt))

three_sized : (s : List ℕ) → length s ≡ 3 → All (Sized s) (lengths 0 0 (or_most 65536 (pair s 1)) true)
unfolding lc_bytes le_bytes
three_sized s l c t = record { start = refl; whole = rw (not_zero 65536 (pair s 1) (omega arith)) (omega arith) }

extended_sized : (r : Reading) (s : List ℕ) → All (Sized s) (extended_of r s)
unfolding extended_body extended_by_standard
extended_sized Crate s =
    all_cond (Sized s) (eqb (length s) 2) _ _ (λ e. tt)
    (λ e. all_cond (Sized s) (eqb (length s) 3) _ _ (λ d. three_sized s (eqb-true (length s) 3 d)) (λ d. long_sized (pair s 1) s))
extended_sized Standard s =
    all_cond (Sized s) (eqb (length s) 3) _ _ (λ e. three_sized s (eqb-true (length s) 3 e))
    (λ e.
    all_cond (Sized s) (eqb (length s) 2) _ _ (λ d. tt)
    (λ d.
    all_cond (Sized s) (eqb (pair s 1) 0) _ _ (λ z. all_cond (Sized s) (eqb (length s) 5) _ _ (λ y. tt) (λ y. tt))
    (λ z. long_sized (pair s 1) s)))

pub sized : (r : Reading) (s : List ℕ) → All (Sized s) (body_of r s)
unfolding body_of lc_bytes le_bytes
sized r s =
    all_cond (Sized s) (eqb (length s) 0) _ _ (λ e c t. record { start = refl; whole = omega (arith, eqb-true (length s) 0 e) })
    (λ e.
    all_cond (Sized s) (eqb (length s) 1) _ _
    (λ d c t. record { start = refl; whole = rw (not_zero 256 (byte s 0) (omega arith)) (omega (arith, eqb-true (length s) 1 d)) })
    (λ d. all_cond (Sized s) (eqb (byte s 0) 0) _ _ (λ z. extended_sized r s) (λ z. short_sized (byte s 0) s)))
