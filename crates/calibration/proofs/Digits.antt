-- Laws of packed decimal: digits and numbers correspond one to one (rules 19.3 and 19.10).
use mathlib.Core.Logic.{◌⊎◌, inl, inr}
use Prim.Native.Nat.{ℕ, zero, suc, ◌+◌, ◌*◌, ◌/◌, ◌%◌, ◌≤◌, ◌<◌}
use mathlib.Core.Path.{◌≡◌, refl, sym, ap, ◌∙◌}
use mathlib.Core.Bool.{Bool, true, false, ◌&&◌, and-eq-true_iff}
use mathlib.Core.List.{List, [], ◌∷◌}
use native.Mathlib.Omega.{arith}
use lib.Dec.{leb}
use lib.ListN.{length, get_or}
use borrow.Author.Tests.{leb-true, le-leb}
use Rattle.basis.specs.Reply.{Reply, ok, refused}
use Rattle.basis.specs.Number.{number}
use Rattle.std.specs.Int.{w32, from_be_bytes}
use Rattle.std.specs.Bool.{MatchBool}
use Rattle.std.specs.List.{AllWithin, HoldsAt}
use Rattle.basis.proofs.Truth.{on_cond}
use Rattle.calibration.specs.Date.{is_real, is_decimal, two_digits, are_packed, date_in, date_of, packed, date_bytes}
use Rattle.calibration.specs.declared.date.Date.{Date}
use Rattle.calibration.proofs.Calendar.{Real, real_says, month_most, days_bound}

-- a number below 100 in two digits, and back
module _ (n : ℕ) (h : n < 100) where
  pub packed_decimal : is_decimal (packed n) ≡ true
  unfolding is_decimal packed
  packed_decimal = rw (le-leb ((n / 10 * 16 + n % 10) / 16) 9 (omega arith), le-leb ((n / 10 * 16 + n % 10) % 16) 9 (omega arith))

  pub digits_packed : two_digits (packed n) ≡ n
  unfolding two_digits packed
  digits_packed = omega arith

-- a byte of two digits as a number below 100, and back
module _ (b : ℕ) (h : is_decimal b ≡ true) where
  digits : (b / 16 ≤ 9) × (b % 16 ≤ 9)
  unfolding is_decimal
  digits =
      let d = (and-eq-true_iff (leb (b / 16) 9) (leb (b % 16) 9)).0 h in
      (leb-true (b / 16) 9 d.0, leb-true (b % 16) 9 d.1)

  pub digits_below : two_digits b < 100
  unfolding two_digits
  digits_below = omega (arith, digits)

  pub packed_digits : packed (two_digits b) ≡ b
  unfolding packed two_digits
  packed_digits = omega (arith, digits)

-- the parts of a real date are below 100
module _ (d : Date) (r : Real d) where
  pub century_below : d.year / 100 < 100
  century_below = omega (arith, r.until)

  pub month_below : d.month < 100
  month_below = omega (arith, month_most d r)

  pub day_below : d.day < 100
  day_below = omega (arith, r.last, days_bound d.year d.month)

-- the bytes of a real date say that date
pub date_back : (d : Date) → Real d → date_in (date_bytes d) ≡ d
unfolding date_in date_bytes
date_back d r =
    let y : two_digits (packed (d.year / 100)) * 100 + two_digits (packed (d.year % 100)) ≡ d.year =
    omega (arith, digits_packed (d.year / 100) (century_below d r), digits_packed (d.year % 100) (omega arith)) in
    let m = digits_packed d.month (month_below d r) in
    let k = digits_packed d.day (day_below d r) in
    λ i. record { year = y i; month = m i; day = k i }

pub date_packed : (d : Date) → Real d → are_packed (date_bytes d) ≡ true
unfolding are_packed date_bytes
date_packed d r =
    rw (
      packed_decimal (d.year / 100) (century_below d r),
      packed_decimal (d.year % 100) (omega arith),
      packed_decimal d.month (month_below d r),
      packed_decimal d.day (day_below d r),
    )

pub date_read : (d : Date) → is_real d ≡ true → date_of (date_bytes d) ≡ ok d
unfolding date_of
date_read d e =
    let r = real_says d e in
    rw (date_packed d r, date_back d r, e)

-- four bytes one by one
pub four : (b : List ℕ) → length b ≡ 4 → b ≡ get_or b 0 0 ∷ get_or b 1 0 ∷ get_or b 2 0 ∷ get_or b 3 0 ∷ []
four [] h = absurd (omega arith)
four (x ∷ []) h = absurd (omega arith)
four (x ∷ y ∷ []) h = absurd (omega arith)
four (x ∷ y ∷ z ∷ []) h = absurd (omega arith)
four (x ∷ y ∷ z ∷ w ∷ []) h = refl
four (x ∷ y ∷ z ∷ w ∷ v ∷ b) h = absurd (omega arith)

-- four tests of which one fails
no_and : (x y : Bool) → (x ≡ false) ⊎ (y ≡ false) → (x && y) ≡ false
no_and true y (inl e) = cc
no_and true y (inr e) = e
no_and false y e = refl

none_of_four : (p : ℕ → Bool) (k : ℕ) → k < 4 → p k ≡ false → false ≡ (p 0 && p 1 && p 2 && p 3)
none_of_four p zero h e = sym (no_and _ (p 3) (inl (no_and _ (p 2) (inl (no_and (p 0) (p 1) (inl e))))))
none_of_four p (suc zero) h e = sym (no_and _ (p 3) (inl (no_and _ (p 2) (inl (no_and (p 0) (p 1) (inr e))))))
none_of_four p (suc (suc zero)) h e = sym (no_and _ (p 3) (inl (no_and _ (p 2) (inr e))))
none_of_four p (suc (suc (suc zero))) h e = sym (no_and _ (p 3) (inr e))
none_of_four p (suc (suc (suc (suc k)))) h e = absurd (omega arith)

-- whether all four bytes are decimal, as a search for one that is not finds it
pub packed_by : (b : List ℕ) → length b ≡ 4 → (r : Bool)
    → MatchBool r (AllWithin (λ x. is_decimal x ≡ true) b 0 (length b)) ((k : ℕ) × (k < length b) × HoldsAt (λ x. is_decimal x ≡ false) b k)
    → r ≡ are_packed b
unfolding are_packed
packed_by b size true h =
    rw (h 0 0 (omega arith) (omega arith), h 1 0 (omega arith) (omega arith), h 2 0 (omega arith) (omega arith), h 3 0 (omega arith) (omega arith))
packed_by b size false h =
    none_of_four (λ k. is_decimal (get_or b k 0)) h.0 (omega (arith, h.1)) (h.2 0)

-- four bytes of packed decimal are the bytes of the date that they say
pub bytes_back : (b : List ℕ) → length b ≡ 4 → are_packed b ≡ true → date_bytes (date_in b) ≡ b
unfolding date_bytes date_in are_packed
bytes_back b size e =
    let w = get_or b 0 0 in
    let x = get_or b 1 0 in
    let y = get_or b 2 0 in
    let z = get_or b 3 0 in
    let p = (and-eq-true_iff (is_decimal w && is_decimal x && is_decimal y) (is_decimal z)).0 e in
    let q = (and-eq-true_iff (is_decimal w && is_decimal x) (is_decimal y)).0 p.0 in
    let r = (and-eq-true_iff (is_decimal w) (is_decimal x)).0 q.0 in
    let high : (two_digits w * 100 + two_digits x) / 100 ≡ two_digits w = omega (arith, digits_below x r.1) in
    let low : (two_digits w * 100 + two_digits x) % 100 ≡ two_digits x = omega (arith, digits_below x r.1) in
    rw (high, low, packed_digits w r.0, packed_digits x r.1, packed_digits y q.1, packed_digits z p.1) (sym (four b size))

-- a date is read, or 27 is given
pub by_date : (P : Reply Date → Type 0) (b : List ℕ) → (are_packed b ≡ true → is_real (date_in b) ≡ true → P (ok (date_in b)))
    → ((are_packed b && is_real (date_in b)) ≡ false → P (refused 27)) → P (date_of b)
unfolding date_of
by_date P b h g =
    on_cond P (are_packed b && is_real (date_in b)) (ok (date_in b)) (refused 27)
    (λ e. let t = (and-eq-true_iff (are_packed b) (is_real (date_in b))).0 e in h t.0 t.1) g

-- the number in four bytes
pub number_of_four : (b : List ℕ) → length b ≡ 4
    → number b ≡ (get_or b 0 0 * 256 + get_or b 1 0) * 65536 + (get_or b 2 0 * 256 + get_or b 3 0)
unfolding number
number_of_four b h = ap number (four b h) ∙ omega arith

-- the number that four bytes say with the highest first
pub capacity_said : (b : List ℕ) → length b ≡ 4 → from_be_bytes w32 b ≡ number b
unfolding number
capacity_said [] h = absurd (omega arith)
capacity_said (x ∷ []) h = absurd (omega arith)
capacity_said (x ∷ y ∷ []) h = absurd (omega arith)
capacity_said (x ∷ y ∷ z ∷ []) h = absurd (omega arith)
capacity_said (x ∷ y ∷ z ∷ w ∷ []) h = omega arith
capacity_said (x ∷ y ∷ z ∷ w ∷ v ∷ b) h = absurd (omega arith)
