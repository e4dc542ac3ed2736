-- What each byte of a header comes to (rules 18.2, 6.1 to 6.3 and 6.6).
use Prim.Native.Nat.{ℕ, ◌+◌, ◌*◌, ◌%◌, ◌≤◌, ◌<◌}
use mathlib.Core.Path.{◌≡◌, refl}
use mathlib.Core.Bool.{true, false}
use native.Mathlib.Omega.{arith}
use borrow.Author.Tests.{le-leb, lt-leb, eq-eqb, ne_eqb}
use Rattle.std.specs.Prelude.{Ok, Err}
use Rattle.tlv.specs.Tag.{crate_tag_size, crate_third_byte}
use Rattle.tlv.specs.declared.stop.Stop.TheVariants.{Unreadable}
use Rattle.tlv_chunks.specs.Header.{first_of, second_of, third_of, length_of, byte_of}
use Rattle.tlv_chunks.specs.declared.header.Header.TheVariants.{Tag1, Tag2, Tag, Length81, Length82, Length82High}
use Rattle.tlv_chunks.specs.declared.header.HeaderByte.TheVariants.{More, Complete}

-- the first byte of a tag: it is the tag, or a second follows
pub first_alone : (a : ℕ) → (a % 32 ≡ 31 → ⊥) → first_of a ≡ Tag a
unfolding first_of
first_alone a n = rw (ne_eqb (a % 32) 31 n)

pub first_of_more : (a : ℕ) → a % 32 ≡ 31 → first_of a ≡ Tag1 a
unfolding first_of
first_of_more a e = rw (eq-eqb (a % 32) 31 e)

-- the second: refused, the last, or a third follows
module _ (a b : ℕ) where
  pub second_refused : crate_tag_size b ≡ 0 → byte_of (Tag1 a) b ≡ Err Unreadable
  unfolding byte_of second_of
  second_refused e = rw (eq-eqb (crate_tag_size b) 0 e)

  pub second_last : crate_tag_size b ≡ 2 → byte_of (Tag1 a) b ≡ Ok (More (Tag (a * 256 + b)))
  unfolding byte_of second_of
  second_last e = rw e

  pub second_of_three : (crate_tag_size b ≡ 0 → ⊥) → (crate_tag_size b ≡ 2 → ⊥) → byte_of (Tag1 a) b ≡ Ok (More (Tag2 a b))
  unfolding byte_of second_of
  second_of_three n m = rw (ne_eqb (crate_tag_size b) 0 n, ne_eqb (crate_tag_size b) 2 m)

-- the third: the last, or refused
module _ (a b c : ℕ) where
  pub third_last : crate_third_byte c ≡ true → byte_of (Tag2 a b) c ≡ Ok (More (Tag ((a * 256 + b) * 256 + c)))
  unfolding byte_of third_of
  third_last e = rw e

  pub third_refused : crate_third_byte c ≡ false → byte_of (Tag2 a b) c ≡ Err Unreadable
  unfolding byte_of third_of
  third_refused e = rw e

-- the first byte of a length: the length, 81, 82, or refused; then the bytes after 81 and 82
module _ (t a : ℕ) where
  pub length_alone : a ≤ 0x7F → byte_of (Tag t) a ≡ Ok (Complete t a)
  unfolding byte_of length_of
  length_alone h = rw (le-leb a 0x7F h)

  pub length_81 : a ≡ 0x81 → byte_of (Tag t) a ≡ Ok (More (Length81 t))
  unfolding byte_of length_of
  length_81 e = rw (lt-leb a 0x7F (omega arith), eq-eqb a 0x81 e)

  pub length_82 : a ≡ 0x82 → byte_of (Tag t) a ≡ Ok (More (Length82 t))
  unfolding byte_of length_of
  length_82 e = rw (lt-leb a 0x7F (omega arith), ne_eqb a 0x81 (λ f. omega arith), eq-eqb a 0x82 e)

  pub length_refused : 0x7F < a → (a ≡ 0x81 → ⊥) → (a ≡ 0x82 → ⊥) → byte_of (Tag t) a ≡ Err Unreadable
  unfolding byte_of length_of
  length_refused h n m = rw (lt-leb a 0x7F h, ne_eqb a 0x81 n, ne_eqb a 0x82 m)

  pub after_81 : byte_of (Length81 t) a ≡ Ok (Complete t a)
  unfolding byte_of
  after_81 = refl

  pub high_after_82 : byte_of (Length82 t) a ≡ Ok (More (Length82High t a))
  unfolding byte_of
  high_after_82 = refl

  pub low_after_82 : (b : ℕ) → byte_of (Length82High t a) b ≡ Ok (Complete t (a * 256 + b))
  unfolding byte_of
  low_after_82 b = refl
