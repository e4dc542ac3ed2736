-- What is read for each first byte of a length (rules 6.6 to 6.8).
use Prim.Native.Nat.{ℕ, ◌+◌, ◌*◌, ◌≤◌, ◌<◌}
use mathlib.Core.Path.{◌≡◌, refl}
use mathlib.Core.List.{List}
use native.Mathlib.Omega.{arith}
use borrow.Author.Tests.{lt-ltb, le-ltb, le-leb, lt-leb, eq-eqb, ne_eqb, ltb-false, leb-true, eqb-true}
use lib.Dec.{ltb, leb, eqb}
use lib.ListN.{length, get_or}
use Rattle.basis.specs.Reply.{Reply, ok, refused}
use Rattle.basis.proofs.Truth.{on_cond}
use Rattle.tlv.specs.Len.{Len, len_to82, len_of}
use Rattle.tlv.specs.declared.Reading.{Reading}
use Rattle.tlv.specs.declared.Reading.TheVariants.{Crate, Standard}

-- both readings read lengths alike (rule 6.6)
pub len_in_both_readings : (r : Reading) (s : List ℕ) → len_of r s ≡ len_to82 s
len_in_both_readings Crate s = refl
len_in_both_readings Standard s = refl

module _ (s : List ℕ) where
  -- from no bytes: 12 (rule 6.8)
  pub no_length : length s < 1 → len_to82 s ≡ refused 12
  unfolding len_to82
  no_length h = rw (lt-ltb (length s) 1 h)

  module _ (h : 1 ≤ length s) where
    -- one byte; 81 and one byte, whatever that byte is (rule 6.7); 82 and two; any other first byte
    pub short_length : get_or s 0 0 ≤ 0x7F → len_to82 s ≡ ok (record { number = get_or s 0 0; size = 1 })
    unfolding len_to82
    short_length g = rw (le-ltb (length s) 1 h, le-leb (get_or s 0 0) 0x7F g)

    pub cut_81 : get_or s 0 0 ≡ 0x81 → length s < 2 → len_to82 s ≡ refused 12
    unfolding len_to82
    cut_81 g f =
        rw (le-ltb (length s) 1 h, lt-leb (get_or s 0 0) 0x7F (omega arith), eq-eqb (get_or s 0 0) 0x81 g, lt-ltb (length s) 2 f)

    pub after_81 : get_or s 0 0 ≡ 0x81 → 2 ≤ length s → len_to82 s ≡ ok (record { number = get_or s 1 0; size = 2 })
    unfolding len_to82
    after_81 g f =
        rw (le-ltb (length s) 1 h, lt-leb (get_or s 0 0) 0x7F (omega arith), eq-eqb (get_or s 0 0) 0x81 g, le-ltb (length s) 2 f)

    pub cut_82 : get_or s 0 0 ≡ 0x82 → length s < 3 → len_to82 s ≡ refused 12
    unfolding len_to82
    cut_82 g f =
        rw (
          le-ltb (length s) 1 h,
          lt-leb (get_or s 0 0) 0x7F (omega arith),
          ne_eqb (get_or s 0 0) 0x81 (λ e. omega arith),
          eq-eqb (get_or s 0 0) 0x82 g,
          lt-ltb (length s) 3 f,
        )

    pub after_82 : get_or s 0 0 ≡ 0x82 → 3 ≤ length s → len_to82 s ≡ ok (record { number = get_or s 1 0 * 256 + get_or s 2 0; size = 3 })
    unfolding len_to82
    after_82 g f =
        rw (
          le-ltb (length s) 1 h,
          lt-leb (get_or s 0 0) 0x7F (omega arith),
          ne_eqb (get_or s 0 0) 0x81 (λ e. omega arith),
          eq-eqb (get_or s 0 0) 0x82 g,
          le-ltb (length s) 3 f,
        )

    pub other_length : 0x7F < get_or s 0 0 → (get_or s 0 0 ≡ 0x81 → ⊥) → (get_or s 0 0 ≡ 0x82 → ⊥) → len_to82 s ≡ refused 12
    unfolding len_to82
    other_length g f e =
        rw (
          le-ltb (length s) 1 h,
          lt-leb (get_or s 0 0) 0x7F g,
          ne_eqb (get_or s 0 0) 0x81 f,
          ne_eqb (get_or s 0 0) 0x82 e,
        )

  -- what holds of the refusal 12 and of each of these lengths holds of the reply for s
  pub by_length : (r : Reading) (P : Reply Len → Type 0) → P (refused 12)
      → (1 ≤ length s → get_or s 0 0 ≤ 0x7F → P (ok (record { number = get_or s 0 0; size = 1 })))
      → (2 ≤ length s → get_or s 0 0 ≡ 0x81 → P (ok (record { number = get_or s 1 0; size = 2 })))
      → (3 ≤ length s → get_or s 0 0 ≡ 0x82 → P (ok (record { number = get_or s 1 0 * 256 + get_or s 2 0; size = 3 })))
      → P (len_of r s)
  unfolding len_to82
  by_length r P unread one two three =
      let l = get_or s 0 0 in
      rw (len_in_both_readings r s) (on_cond P (ltb (length s) 1) _ _ (λ _. unread)
      (λ a. on_cond P (leb l 0x7F) _ _ (λ b. one (ltb-false (length s) 1 a) (leb-true l 0x7F b))
      (λ _. on_cond P (eqb l 0x81) _ _
      (λ b. on_cond P (ltb (length s) 2) _ _ (λ _. unread) (λ c. two (ltb-false (length s) 2 c) (eqb-true l 0x81 b)))
      (λ _. on_cond P (eqb l 0x82) _ _
      (λ b. on_cond P (ltb (length s) 3) _ _ (λ _. unread) (λ c. three (ltb-false (length s) 3 c) (eqb-true l 0x82 b)))
      (λ _. unread)))))
