-- What is read for the bytes of a tag (rules 6.1 to 6.4, 6.8 and 16.5).
use Prim.Native.Nat.{ℕ, ◌+◌, ◌*◌, ◌%◌, ◌≤◌, ◌<◌}
use mathlib.Core.Path.{◌≡◌, refl, sym, ◌∙◌}
use mathlib.Core.Bool.{true, false}
use mathlib.Core.List.{List, []}
use native.Mathlib.Decide.{dec_le}
use native.Mathlib.Omega.{arith}
use lib.Dec.{ltb, eqb}
use lib.ListN.{length, get_or}
use borrow.Author.Tests.{ltb-true, ltb-false, eqb-true, eqb-false, lt-ltb, le-ltb, le-leb, eq-eqb, ne_eqb}
use Rattle.basis.specs.Reply.{Reply, ok, refused}
use Rattle.basis.proofs.Reply.{refused_not_ok}
use Rattle.basis.proofs.Truth.{on_cond}
use Rattle.tlv.specs.Padding.{padding}
use Rattle.tlv.specs.Tag.{Tag, in_range, crate_tag_size, standard_tag_size, tag_size, crate_third_byte, third_byte, three_bytes, long_tag, tag_of, tag_alone}
use Rattle.tlv.specs.declared.Reading.{Reading}
use Rattle.tlv.specs.declared.Reading.TheVariants.{Crate, Standard}
use Rattle.tlv.proofs.InRange.{inside, below, above}

-- The second byte b in the crate reading (rule 6.2): 00 to 1D and 80 are refused, 1E to 7F and FF end a tag of two
-- bytes, 81 to FE ask for a third.
module _ (b : ℕ) where
  pub crate_second_refused : b ≤ 0x1D → crate_tag_size b ≡ 0
  unfolding crate_tag_size
  crate_second_refused h = rw (inside 0x00 0x1D b (omega arith) h)

  pub crate_second_last : 0x1E ≤ b → b ≤ 0x7F → crate_tag_size b ≡ 2
  unfolding crate_tag_size
  crate_second_last h g =
      rw (above 0x00 0x1D b (omega arith) (omega arith), ne_eqb b 0x80 (λ e. omega (arith, e)), below 0x81 0xFE b (omega arith))

  pub crate_second_more : 0x81 ≤ b → b ≤ 0xFE → crate_tag_size b ≡ 3
  unfolding crate_tag_size
  crate_second_more h g =
      rw (above 0x00 0x1D b (omega arith) (omega arith), ne_eqb b 0x80 (λ e. omega (arith, e)), inside 0x81 0xFE b h g)

  -- its third byte (rule 6.3): 81 to FE are refused, any other ends a tag of three bytes
  pub crate_third_refused : 0x81 ≤ b → b ≤ 0xFE → crate_third_byte b ≡ false
  unfolding crate_third_byte
  crate_third_refused h g = rw (inside 0x81 0xFE b h g)

  pub crate_third_low : b ≤ 0x80 → crate_third_byte b ≡ true
  unfolding crate_third_byte
  crate_third_low h = rw (below 0x81 0xFE b (omega arith))

  -- the second byte in the standard reading (rule 6.4)
  pub standard_second_refused : b ≤ 0x1E → standard_tag_size b ≡ 0
  unfolding standard_tag_size
  standard_second_refused h = rw (below 0x1F 0x7F b (omega arith), below 0x81 0xFF b (omega arith))

  pub standard_second_last : 0x1F ≤ b → b ≤ 0x7F → standard_tag_size b ≡ 2
  unfolding standard_tag_size
  standard_second_last h g = rw (inside 0x1F 0x7F b h g)

  pub standard_second_more : 0x81 ≤ b → b ≤ 0xFF → standard_tag_size b ≡ 3
  unfolding standard_tag_size
  standard_second_more h g = rw (above 0x1F 0x7F b (omega arith) (omega arith), inside 0x81 0xFF b h g)

-- the bytes 80 and FF in both readings (rules 6.2 to 6.4)
pub second_80_ff : (crate_tag_size 0x80 ≡ 0) × (crate_tag_size 0xFF ≡ 2) × (standard_tag_size 0x80 ≡ 0)
unfolding crate_tag_size standard_tag_size in_range
second_80_ff = (refl, refl, refl)

pub crate_third_ff : crate_third_byte 0xFF ≡ true
unfolding crate_third_byte in_range
crate_third_ff = refl

-- a tag from no bytes is refused with 11 (rule 6.8)
pub tag_of_nothing : (r : Reading) → tag_of r [] ≡ refused 11
unfolding tag_of
tag_of_nothing r = refl

module _ (r : Reading) (s : List ℕ) where
  -- a tag of one byte (rule 6.1), of two and of three
  pub tag_one : 1 ≤ length s → (get_or s 0 0 % 32 ≡ 31 → ⊥) → tag_of r s ≡ ok (record { number = get_or s 0 0; size = 1 })
  unfolding tag_of
  tag_one h n = rw (le-ltb (length s) 1 h, ne_eqb (get_or s 0 0 % 32) 31 n)

  module _ (long : get_or s 0 0 % 32 ≡ 31) where
    pub tag_two : 2 ≤ length s → tag_size r (get_or s 1 0) ≡ 2
        → tag_of r s ≡ ok (record { number = get_or s 0 0 * 256 + get_or s 1 0; size = 2 })
    unfolding tag_of long_tag
    tag_two h z = rw (le-ltb (length s) 1 (omega arith), eq-eqb (get_or s 0 0 % 32) 31 long, le-ltb (length s) 2 h, z)

    pub tag_three : 3 ≤ length s → (tag_size r (get_or s 1 0) ≡ 0 → ⊥) → (tag_size r (get_or s 1 0) ≡ 2 → ⊥) → third_byte r (get_or s 2 0) ≡ true
        → tag_of r s ≡ ok (record { number = (get_or s 0 0 * 256 + get_or s 1 0) * 256 + get_or s 2 0; size = 3 })
    unfolding tag_of long_tag three_bytes
    tag_three h z w t =
        rw (
          le-ltb (length s) 1 (omega arith),
          eq-eqb (get_or s 0 0 % 32) 31 long,
          le-ltb (length s) 2 (omega arith),
          ne_eqb (tag_size r (get_or s 1 0)) 0 z,
          ne_eqb (tag_size r (get_or s 1 0)) 2 w,
          le-ltb (length s) 3 h,
          t,
        )

    -- a second or a third byte that is missing gives 12
    pub second_missing : 1 ≤ length s → length s < 2 → tag_of r s ≡ refused 12
    unfolding tag_of long_tag
    second_missing h g = rw (le-ltb (length s) 1 h, eq-eqb (get_or s 0 0 % 32) 31 long, lt-ltb (length s) 2 g)

    pub third_missing : 2 ≤ length s → length s < 3 → (tag_size r (get_or s 1 0) ≡ 0 → ⊥) → (tag_size r (get_or s 1 0) ≡ 2 → ⊥)
        → tag_of r s ≡ refused 12
    unfolding tag_of long_tag three_bytes
    third_missing h g z w =
        rw (
          le-ltb (length s) 1 (omega arith),
          eq-eqb (get_or s 0 0 % 32) 31 long,
          le-ltb (length s) 2 h,
          ne_eqb (tag_size r (get_or s 1 0)) 0 z,
          ne_eqb (tag_size r (get_or s 1 0)) 2 w,
          lt-ltb (length s) 3 g,
        )

    -- a second or a third byte that is refused gives 12
    pub second_refused : 2 ≤ length s → tag_size r (get_or s 1 0) ≡ 0 → tag_of r s ≡ refused 12
    unfolding tag_of long_tag
    second_refused h z = rw (le-ltb (length s) 1 (omega arith), eq-eqb (get_or s 0 0 % 32) 31 long, le-ltb (length s) 2 h, z)

    pub third_refused : 3 ≤ length s → (tag_size r (get_or s 1 0) ≡ 0 → ⊥) → (tag_size r (get_or s 1 0) ≡ 2 → ⊥) → third_byte r (get_or s 2 0) ≡ false
        → tag_of r s ≡ refused 12
    unfolding tag_of long_tag three_bytes
    third_refused h z w t =
        rw (
          le-ltb (length s) 1 (omega arith),
          eq-eqb (get_or s 0 0 % 32) 31 long,
          le-ltb (length s) 2 (omega arith),
          ne_eqb (tag_size r (get_or s 1 0)) 0 z,
          ne_eqb (tag_size r (get_or s 1 0)) 2 w,
          le-ltb (length s) 3 h,
          t,
        )

  -- what holds of the refusals 11 and 12 and of each of these tags holds of the reply for s
  pub by_tag : (P : Reply Tag → Type 0) → (length s < 1 → P (refused 11)) → (1 ≤ length s → P (refused 12))
      → (1 ≤ length s → (get_or s 0 0 % 32 ≡ 31 → ⊥) → P (ok (record { number = get_or s 0 0; size = 1 })))
      → (get_or s 0 0 % 32 ≡ 31 → 2 ≤ length s → tag_size r (get_or s 1 0) ≡ 2
      → P (ok (record { number = get_or s 0 0 * 256 + get_or s 1 0; size = 2 })))
      → (get_or s 0 0 % 32 ≡ 31 → 3 ≤ length s → (tag_size r (get_or s 1 0) ≡ 0 → ⊥) → (tag_size r (get_or s 1 0) ≡ 2 → ⊥)
      → third_byte r (get_or s 2 0) ≡ true → P (ok (record { number = (get_or s 0 0 * 256 + get_or s 1 0) * 256 + get_or s 2 0; size = 3 })))
      → P (tag_of r s)
  unfolding tag_of long_tag three_bytes
  by_tag P end unread one two three =
      let b1 = get_or s 0 0 % 32 in
      let k = tag_size r (get_or s 1 0) in
      on_cond P (ltb (length s) 1) _ _ (λ a. end (ltb-true (length s) 1 a)) (λ a.
      let some = ltb-false (length s) 1 a in
      on_cond P (eqb b1 31) _ _
      (λ b. on_cond P (ltb (length s) 2) _ _ (λ _. unread some)
      (λ c. on_cond P (eqb k 0) _ _ (λ _. unread some)
      (λ z. on_cond P (eqb k 2) _ _ (λ w. two (eqb-true b1 31 b) (ltb-false (length s) 2 c) (eqb-true k 2 w))
      (λ w. on_cond P (ltb (length s) 3) _ _ (λ _. unread some)
      (λ d. on_cond P (third_byte r (get_or s 2 0)) _ _
      (three (eqb-true b1 31 b) (ltb-false (length s) 3 d) (eqb-false k 0 z) (eqb-false k 2 w)) (λ _. unread some))))))
      (λ b. one some (eqb-false b1 31 b)))

-- A tag read alone: where no padding stands it is the tag of an object, where padding stands there is none (rule 16.5).
pub alone_unpadded : (r : Reading) (s : List ℕ) → padding r s ≡ 0 → tag_alone r s ≡ tag_of r s
unfolding tag_alone
alone_unpadded r s e = rw e

pub alone_padded : (r : Reading) (s : List ℕ) → 1 ≤ padding r s → tag_alone r s ≡ refused 12
unfolding tag_alone
alone_padded r s h = rw (le-leb 1 (padding r s) h)

pub alone_read : (r : Reading) (s : List ℕ) (t : Tag) → tag_alone r s ≡ ok t → (padding r s ≡ 0) × (tag_of r s ≡ ok t)
alone_read r s t e =
    elim (dec_le 1 (padding r s)) [
      | yes h ↦ absurd (refused_not_ok 12 t (sym (alone_padded r s h) ∙ e))
      | no h ↦ let none : padding r s ≡ 0 = omega (arith, h) in (none, sym (alone_unpadded r s none) ∙ e)
    ]

-- Rule 6.2 in numbers: a second byte up to 1D is refused with 12, one from 1E to 7F ends a tag of two bytes.
module _ (s : List ℕ) (two : 2 ≤ length s) (long : get_or s 0 0 % 32 ≡ 31) where
  pub crate_to_1d : get_or s 1 0 ≤ 0x1D → tag_of Crate s ≡ refused 12
  unfolding tag_size
  crate_to_1d g = second_refused Crate s long two (crate_second_refused (get_or s 1 0) g)

  pub crate_from_1e : 0x1E ≤ get_or s 1 0 → get_or s 1 0 ≤ 0x7F
      → tag_of Crate s ≡ ok (record { number = get_or s 0 0 * 256 + get_or s 1 0; size = 2 })
  unfolding tag_size
  crate_from_1e g l = tag_two Crate s long two (crate_second_last (get_or s 1 0) g l)

  -- rule 6.4 in numbers: a second byte up to 1E is refused with 12
  pub standard_to_1e : get_or s 1 0 ≤ 0x1E → tag_of Standard s ≡ refused 12
  unfolding tag_size
  standard_to_1e g = second_refused Standard s long two (standard_second_refused (get_or s 1 0) g)
