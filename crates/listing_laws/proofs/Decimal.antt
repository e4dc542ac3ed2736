-- Every number is printed in decimal digits that show it (rule 10.9).
use Prim.Native.Nat.{ℕ, zero, suc, ◌+◌, ◌-◌, ◌*◌, ◌/◌, ◌%◌, ◌≤◌, ◌<◌}
use mathlib.Core.Path.{◌≡◌, sym, ap, ◌∙◌}
use mathlib.Core.List.{List, [], ◌∷◌, ◌++◌}
use native.Mathlib.Decide.{dec_le}
use native.Mathlib.Omega.{arith}
use lib.ListN.{length, get_or-append}
use borrow.Author.Tests.{lt-ltb}
use Rattle.basis.proofs.Every.{every_append}
use Rattle.listing.specs.Text.{hex_digit, decimal}
use Rattle.listing.proofs.Decimal.{decimal_one, decimal_more, length_more}
use Rattle.listing_laws.specs.Decimal.{value_from, Shows}

digit : (d : ℕ) → d < 10 → hex_digit d ≡ 48 + d
unfolding hex_digit
digit d h = rw (lt-ltb d 10 h)

digit_more : (a : ℕ) (xs : List ℕ) (d : ℕ) → d < 10 → value_from a (xs ++ (hex_digit d ∷ [])) ≡ value_from a xs * 10 + d
unfolding value_from
digit_more a [] d h = omega (arith, digit d h)
digit_more a (c ∷ xs) d h = digit_more (a * 10 + (c - 48)) xs d h

abbrev Digit : ℕ → Type 0
Digit c = (48 ≤ c) × (c ≤ 57)

-- a number of one digit; one digit more after digits that show a tenth of the number
one_digit : (n : ℕ) → n < 10 → Shows n (hex_digit n ∷ [])
unfolding value_from
one_digit n h =
    let e = digit n h in
    record { value = omega (arith, e); digits = (omega (arith, e), tt); first = λ l q. omega (arith, e, l, q) }

digit_added : (n : ℕ) (cs : List ℕ) → 10 ≤ n → 1 ≤ length cs → Shows (n / 10) cs → Shows n (cs ++ (hex_digit (n % 10) ∷ []))
digit_added n cs h g w =
    let e = digit (n % 10) (omega arith) in
    record {
      value = omega (arith, digit_more 0 cs (n % 10) (omega arith), w.value);
      digits = every_append Digit cs (hex_digit (n % 10) ∷ []) w.digits (omega (arith, e), tt);
      first = λ l q. w.first (omega arith) (sym (get_or-append cs (hex_digit (n % 10) ∷ []) 48 0 (omega (arith, g))) ∙ q);
    }

some_digit : (k n : ℕ) → n < k → 1 ≤ length (decimal n)
some_digit zero n h = absurd (omega arith)
some_digit (suc k) n h =
    elim (dec_le 10 n) [
      | yes p ↦ omega (arith, length_more n p)
      | no p ↦ omega (arith, ap length (decimal_one n (omega arith)))
    ]

shows : (k n : ℕ) → n < k → Shows n (decimal n)
shows zero n h = absurd (omega arith)
shows (suc k) n h =
    elim (dec_le 10 n) [
      | yes p ↦ rw (decimal_more n p) (digit_added n (decimal (n / 10)) p (some_digit n (n / 10) (omega arith)) (shows k (n / 10) (omega arith)))
      | no p ↦ rw (decimal_one n (omega arith)) (one_digit n (omega arith))
    ]

pub decimal_shows : (n : ℕ) → Shows n (decimal n)
decimal_shows n = shows (suc n) n (omega arith)
