-- What is written for a tag and for a length (rules 7.1 and 7.2).
use Prim.Native.Nat.{ℕ, zero, suc, ◌/◌, ◌%◌, ◌≤◌, ◌<◌}
use mathlib.Core.Path.{◌≡◌, refl, ap, ◌∙◌}
use mathlib.Core.List.{List, [], ◌∷◌}
use native.Mathlib.Omega.{arith}
use borrow.Author.Tests.{le-leb, lt-leb}
use lib.ListN.{length, get_or, set, length-set}
use Rattle.basis.specs.Number.{be}
use Rattle.basis.specs.Over.{over}
use Rattle.basis.proofs.Over.{stored}
use Rattle.tlv_write.specs.Written.{tag_bytes, len_bytes}

-- a list of three bytes, byte by byte
three_bytes_of : (t : List ℕ) → length t ≡ 3 → t ≡ get_or t 0 0 ∷ get_or t 1 0 ∷ get_or t 2 0 ∷ []
three_bytes_of [] h = absurd (omega arith)
three_bytes_of (a ∷ []) h = absurd (omega arith)
three_bytes_of (a ∷ b ∷ []) h = absurd (omega arith)
three_bytes_of (a ∷ b ∷ c ∷ []) h = refl
three_bytes_of (a ∷ b ∷ c ∷ d ∷ t) h = absurd (omega arith)

first_kept : (a b : ℕ) (s : List ℕ) → (a ≡ 0 → ⊥) → tag_bytes (a ∷ b ∷ s) ≡ a ∷ b ∷ s
unfolding tag_bytes
first_kept zero b s f = absurd (f refl)
first_kept (suc a) b s f = refl

zero_dropped : (a b : ℕ) (s : List ℕ) → a ≡ 0 → tag_bytes (a ∷ b ∷ s) ≡ tag_bytes (b ∷ s)
unfolding tag_bytes
zero_dropped a b s e = rw e

last_kept : (a : ℕ) → tag_bytes (a ∷ []) ≡ a ∷ []
unfolding tag_bytes
last_kept a = refl

-- a tag that is written as three bytes, as two, and as one (rule 7.1)
module _ (t : List ℕ) (h : length t ≡ 3) where
  pub tag_three : (get_or t 0 0 ≡ 0 → ⊥) → tag_bytes t ≡ get_or t 0 0 ∷ get_or t 1 0 ∷ get_or t 2 0 ∷ []
  tag_three f = ap tag_bytes (three_bytes_of t h) ∙ first_kept _ _ _ f

  pub tag_two : get_or t 0 0 ≡ 0 → (get_or t 1 0 ≡ 0 → ⊥) → tag_bytes t ≡ get_or t 1 0 ∷ get_or t 2 0 ∷ []
  tag_two e f = ap tag_bytes (three_bytes_of t h) ∙ zero_dropped _ _ _ e ∙ first_kept _ _ _ f

  pub tag_one : get_or t 0 0 ≡ 0 → get_or t 1 0 ≡ 0 → tag_bytes t ≡ get_or t 2 0 ∷ []
  tag_one e f = ap tag_bytes (three_bytes_of t h) ∙ zero_dropped _ _ _ e ∙ zero_dropped _ _ _ f ∙ last_kept _

-- a length in one byte, in two, and in three (rule 7.2)
pub len_one : (n : ℕ) → n ≤ 0x7F → len_bytes n ≡ n ∷ []
unfolding len_bytes
len_one n h = rw (le-leb _ _ h)

module _ (n : ℕ) (h : 0x7F < n) where
  pub len_two : n ≤ 0xFF → len_bytes n ≡ 0x81 ∷ n ∷ []
  unfolding len_bytes
  len_two g = rw (lt-leb _ _ h, le-leb _ _ g)

  pub len_three : 0xFF < n → n ≤ 65535 → len_bytes n ≡ 0x82 ∷ n / 256 ∷ n % 256 ∷ []
  unfolding len_bytes be
  len_three g l =
      let e : n / 256 % 256 ≡ n / 256 = omega arith in rw (lt-leb _ _ h, lt-leb _ _ g, e)

-- bytes that are written one by one over the front of a part
module _ (l : List ℕ) where
  pub one_written : (a : ℕ) → 1 ≤ length l → set l 0 a ≡ over (a ∷ []) l
  one_written a h = stored (a ∷ []) l h

  pub two_written : (a b : ℕ) → 2 ≤ length l → set (set l 0 a) 1 b ≡ over (a ∷ b ∷ []) l
  two_written a b h = stored (a ∷ b ∷ []) l h

  pub three_written : (a b c : ℕ) → 3 ≤ length l → set (set (set l 0 a) 1 b) 2 c ≡ over (a ∷ b ∷ c ∷ []) l
  three_written a b c h = stored (a ∷ b ∷ c ∷ []) l h

pub ruleset tag_written = (tag_one, tag_two, tag_three, one_written, two_written, three_written, length-set)

pub ruleset len_written = (len_one, len_two, len_three, one_written, two_written, three_written, length-set)
