-- The number of a day: it grows by one from each real date to the next, and so orders the dates of the century (rule
-- 19.6).
use Prim.Native.Nat.{ℕ, zero, suc, ◌+◌, ◌-◌, ◌≤◌, ◌<◌}
use mathlib.Core.Path.{◌≡◌, refl, sym, ap, ◌∙◌}
use mathlib.Core.Logic.{◌↔◌, ◌⊎◌, inl, inr}
use native.Mathlib.Numerals.{add-one}
use native.Mathlib.Decide.{dec_le, ℕ_discrete}
use native.Mathlib.Omega.{arith}
use lib.Dec.{ltb}
use borrow.Author.Tests.{ltb-true, ltb-false}
use Rattle.basis.proofs.Truth.{on_cond}
use Rattle.calibration.specs.Date.{is_leap, month_days, days_in, is_real, sum_to, year_days, day_number}
use Rattle.calibration.specs.declared.date.Date.{Date}
use Rattle.calibration.proofs.Calendar.{earlier_year, earlier_month, earlier_day}
use Rattle.calibration_laws.specs.Plain.{RealDate, Earlier}
use Rattle.calibration_laws.specs.Next.{date, day_after, date_after}
use Rattle.calibration_laws.proofs.RealDates.{real_date, bounds, real_of, some_days, december}

-- 1 January 2000 has number 0, and 31 December 2099 has number 36,524
pub first_number : day_number (date 2000 1 1) ≡ 0
unfolding day_number sum_to days_in month_days
first_number = refl

pub last_number : day_number (date 2099 12 31) ≡ 36524
unfolding day_number sum_to year_days days_in month_days is_leap
last_number = refl

-- the days of a year up to its next month, and of the years up to the next
months_on : (y m : ℕ) → sum_to (m + 1) (days_in y) ≡ sum_to m (days_in y) + days_in y m
unfolding sum_to
months_on y m = rw add-one

abbrev before_year : ℕ → ℕ
before_year y = sum_to (y - 2000) (λ k. year_days (2000 + k))

years_on : (y : ℕ) → 2000 ≤ y → before_year (y + 1) ≡ before_year y + (sum_to 12 (days_in y) + days_in y 12)
unfolding sum_to year_days
years_on y h =
    let e : y + 1 - 2000 ≡ suc (y - 2000) = omega arith in
    let f : 2000 + (y - 2000) ≡ y = omega arith in
    rw (e, f)

january_first : (y : ℕ) → sum_to 1 (days_in y) ≡ 0
unfolding sum_to days_in
january_first y = refl

module _ (d : Date) (r : RealDate d) where
  same_month : d.day < days_in d.year d.month → day_number (date d.year d.month (d.day + 1)) ≡ day_number d + 1
  unfolding day_number
  same_month h = omega (arith, r.first_day)

  last_there : days_in d.year d.month ≤ d.day → d.day ≡ days_in d.year d.month
  last_there h = omega (arith, h, (bounds d r).last)

  next_month : days_in d.year d.month ≤ d.day → day_number (date d.year (d.month + 1) 1) ≡ day_number d + 1
  unfolding day_number
  next_month h = omega (arith, months_on d.year d.month, last_there h, r.first_day)

  next_year : days_in d.year d.month ≤ d.day → 12 ≤ d.month → day_number (date (d.year + 1) 1 1) ≡ day_number d + 1
  unfolding day_number
  next_year h g =
      let m : d.month ≡ 12 = omega (arith, g, r.last_month) in
      let months = ap (λ (k : ℕ). sum_to k (days_in d.year)) m in
      let days = last_there h ∙ ap (days_in d.year) m in
      omega (arith, years_on d.year r.since, january_first (d.year + 1), months, days, r.first_day)

  -- the number grows by one to the next day
  pub day_after_lem : day_number (day_after d) ≡ day_number d + 1
  unfolding day_after
  day_after_lem =
      let P : Date → Type 0 = λ e. day_number e ≡ day_number d + 1 in
      on_cond P (ltb d.day (days_in d.year d.month)) (date d.year d.month (d.day + 1)) _
      (λ e. same_month (ltb-true d.day (days_in d.year d.month) e))
      (λ e. on_cond P (ltb d.month 12) (date d.year (d.month + 1) 1) (date (d.year + 1) 1 1)
      (λ f. next_month (ltb-false d.day (days_in d.year d.month) e))
      (λ f. next_year (ltb-false d.day (days_in d.year d.month) e) (ltb-false d.month 12 f)))

-- dates in the order of the calendar are in the order of their numbers
module _ (d e : Date) (r : RealDate d) (s : RealDate e) where
  number_of_earlier : Earlier d e → day_number d < day_number e
  number_of_earlier (inl h) = earlier_year d e (bounds d r) (bounds e s) h
  number_of_earlier (inr (inl h)) = earlier_month d e (bounds d r) (bounds e s) h.0 h.1
  number_of_earlier (inr (inr h)) = earlier_day d e (bounds d r) (bounds e s) h.0 h.1 h.2

-- one of two dates is earlier, or they are the same
one_earlier : (d e : Date) → Earlier d e ⊎ Earlier e d ⊎ (d ≡ e)
one_earlier d e =
    elim (ℕ_discrete d.year e.year) [
      | no n ↦ elim (dec_le d.year e.year) [
        | yes h ↦ inl (inl (omega (arith, n, h)))
        | no h ↦ inr (inl (inl (omega (arith, h))))
      ]
      | yes y ↦ elim (ℕ_discrete d.month e.month) [
        | no n ↦ elim (dec_le d.month e.month) [
          | yes h ↦ inl (inr (inl (y, omega (arith, n, h))))
          | no h ↦ inr (inl (inr (inl (sym y, omega (arith, h)))))
        ]
        | yes m ↦ elim (ℕ_discrete d.day e.day) [
          | no n ↦ elim (dec_le d.day e.day) [
            | yes h ↦ inl (inr (inr (y, m, omega (arith, n, h))))
            | no h ↦ inr (inl (inr (inr (sym y, sym m, omega (arith, h)))))
          ]
          | yes k ↦ inr (inr (λ i. date (y i) (m i) (k i)))
        ]
      ]
    ]

module _ (d e : Date) (r : RealDate d) (s : RealDate e) where
  earlier_by_number : day_number d < day_number e → Earlier d e
  earlier_by_number h =
      elim (one_earlier d e) [
        | inl f ↦ f
        | inr g ↦ elim g [
          | inl f ↦ absurd (omega (arith, h, number_of_earlier e d s r f))
          | inr f ↦ absurd (omega (arith, h, ap day_number f))
        ]
      ]

  -- a date is earlier exactly if its day has the smaller number
  pub order_of_days : Earlier d e ↔ (day_number d < day_number e)
  order_of_days = (number_of_earlier d e r s, earlier_by_number)

  -- dates with one number are one date
  pub days_apart : day_number d ≡ day_number e → d ≡ e
  days_apart h =
      elim (one_earlier d e) [
        | inl f ↦ absurd (omega (arith, h, number_of_earlier d e r s f))
        | inr g ↦ elim g [
          | inl f ↦ absurd (omega (arith, h, number_of_earlier e d s r f))
          | inr f ↦ f
        ]
      ]

-- the numbers of the century's days are those below 36,525
real_first : RealDate (date 2000 1 1)
unfolding is_real days_in month_days
real_first = (real_date (date 2000 1 1)).0 refl

real_last : RealDate (date 2099 12 31)
unfolding is_real days_in month_days
real_last = (real_date (date 2099 12 31)).0 refl

not_after : (d : Date) → RealDate d → Earlier (date 2099 12 31) d → ⊥
not_after d r (inl h) = omega (arith, h, r.until)
not_after d r (inr (inl h)) = omega (arith, h.1, r.last_month)
not_after d r (inr (inr h)) = omega (arith, h.2, r.last_day)

pub number_below : (d : Date) → RealDate d → day_number d < 36525
number_below d r =
    let last = date 2099 12 31 in
    elim (one_earlier d last) [
      | inl f ↦ omega (arith, number_of_earlier d last r real_last f, last_number)
      | inr g ↦ elim g [
        | inl f ↦ absurd (not_after d r f)
        | inr f ↦ omega (arith, ap day_number f, last_number)
      ]
    ]

-- the day after a real date is real, but for the last day of the century
module _ (d : Date) (r : RealDate d) (h : day_number d < 36524) where
  real_next_year : days_in d.year d.month ≤ d.day → 12 ≤ d.month → RealDate (date (d.year + 1) 1 1)
  real_next_year g k =
      let m : d.month ≡ 12 = omega (arith, k, r.last_month) in
      let n : d.year ≤ 2098 =
      elim (ℕ_discrete d.year 2099) [
        | no n ↦ omega (arith, n, r.until)
        | yes y ↦
            let days : d.day ≡ 31 = last_there d r g ∙ ap (days_in d.year) m ∙ december d.year in
            let same : d ≡ date 2099 12 31 = λ i. date (y i) (m i) (days i) in
            absurd (omega (arith, h, ap day_number same, last_number))
      ] in
      let some : 28 ≤ days_in (d.year + 1) 1 = some_days (d.year + 1) 1 (omega arith) (omega arith) in
      real_of (date (d.year + 1) 1 1) (omega (arith, r.since)) (omega (arith, n)) (omega arith) (omega (arith, some))

  pub real_after : RealDate (day_after d)
  unfolding day_after
  real_after =
      let y = d.year in
      let m = d.month in
      on_cond RealDate (ltb d.day (days_in y m)) (date y m (d.day + 1)) _
      (λ e. real_of (date y m (d.day + 1)) r.since r.until (omega arith) (omega (arith, ltb-true d.day (days_in y m) e)))
      (λ e. on_cond RealDate (ltb m 12) (date y (m + 1) 1) (date (y + 1) 1 1)
      (λ f.
      let some : 28 ≤ days_in y (m + 1) = some_days y (m + 1) (omega arith) (omega (arith, ltb-true m 12 f)) in
      real_of (date y (m + 1) 1) r.since r.until (omega arith) (omega (arith, some)))
      (λ f. real_next_year (ltb-false d.day (days_in y m) e) (ltb-false m 12 f)))

-- so the century's dates, day by day, are the dates with the numbers 0 to 36,524, each once
pub date_with_number : (n : ℕ) → n < 36525 → RealDate (date_after n) × (day_number (date_after n) ≡ n)
unfolding date_after
date_with_number zero h = (real_first, first_number)
date_with_number (suc n) h =
    let i = date_with_number n (omega arith) in
    (real_after (date_after n) i.0 (omega (arith, i.1)), day_after_lem (date_after n) i.0 ∙ omega (arith, i.1))

pub number_of_date : (d : Date) → RealDate d → date_after (day_number d) ≡ d
number_of_date d r =
    let i = date_with_number (day_number d) (number_below d r) in
    days_apart (date_after (day_number d)) d i.0 r i.1
