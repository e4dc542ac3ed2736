-- Laws of a number in decimal digits.
use Prim.Native.Nat.{ℕ, zero, suc, ◌+◌, ◌*◌, ◌/◌, ◌%◌, ◌≤◌, ◌<◌}
use mathlib.Core.Path.{◌≡◌, ap, ◌∙◌}
use mathlib.Core.Bool.{cond}
use mathlib.Core.List.{List, [], ◌∷◌, ◌++◌}
use native.Mathlib.Decide.{dec_le}
use native.Mathlib.Omega.{arith}
use lib.Dec.{ltb}
use lib.ListN.{length, length-append}
use borrow.Author.Tests.{lt-ltb, le-ltb}
use Rattle.listing.specs.Text.{hex_digit, digits, decimal}

-- any count of digits above the number is enough
enough : (k m n : ℕ) → n < k → n < m → digits k n ≡ digits m n
unfolding digits
enough zero m n h g = absurd (omega arith)
enough (suc k) zero n h g = absurd (omega arith)
enough (suc k) (suc m) n h g =
    elim (dec_le 10 n) [
      | yes p ↦
          ap (λ (l : List ℕ). cond (ltb n 10) (hex_digit n ∷ []) (l ++ (hex_digit (n % 10) ∷ [])))
          (enough k m (n / 10) (omega arith) (omega arith))
      | no p ↦ rw (lt-ltb n 10 (omega arith))
    ]

-- one digit; more digits
pub decimal_one : (n : ℕ) → n < 10 → decimal n ≡ hex_digit n ∷ []
unfolding decimal digits
decimal_one n h = rw (lt-ltb n 10 h)

pub decimal_more : (n : ℕ) → 10 ≤ n → decimal n ≡ decimal (n / 10) ++ (hex_digit (n % 10) ∷ [])
unfolding decimal digits
decimal_more n h =
    rw (le-ltb n 10 h) (ap (λ (l : List ℕ). l ++ (hex_digit (n % 10) ∷ [])) (enough n (suc (n / 10)) (n / 10) (omega arith) (omega arith)))

pub length_more : (n : ℕ) → 10 ≤ n → length (decimal n) ≡ length (decimal (n / 10)) + 1
length_more n h = ap length (decimal_more n h) ∙ length-append (decimal (n / 10)) (hex_digit (n % 10) ∷ [])

-- a number below ten times m has at most one digit more than those below m
below : (k m n : ℕ) → 1 ≤ k → ((i : ℕ) → i < m → length (decimal i) ≤ k) → n < 10 * m → length (decimal n) ≤ k + 1
below k m n g h l =
    elim (dec_le 10 n) [
      | yes p ↦ omega (arith, length_more n p, h (n / 10) (omega arith))
      | no p ↦ omega (arith, ap length (decimal_one n (omega arith)))
    ]

pub at_most_five : (n : ℕ) → n < 100000 → length (decimal n) ≤ 5
at_most_five n h =
    below 4 10000 n (omega arith)
    (λ i g. below 3 1000 i (omega arith)
    (λ j f. below 2 100 j (omega arith)
    (λ a e. below 1 10 a (omega arith) (λ b d. omega (arith, ap length (decimal_one b d))) e) f) g) h
