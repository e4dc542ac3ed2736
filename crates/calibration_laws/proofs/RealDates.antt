-- What the definition of a real date says in plain words, and the bytes of a date (rules 19.3 and 19.4).
use Prim.Native.Nat.{ℕ, zero, suc, ◌/◌, ◌%◌, ◌≤◌}
use mathlib.Core.Path.{◌≡◌, refl, sym, ◌∙◌}
use mathlib.Core.Logic.{◌↔◌, ◌⊎◌, inl, inr}
use mathlib.Core.Bool.{true, false}
use native.Mathlib.Decide.{ℕ_discrete}
use native.Mathlib.Omega.{arith}
use borrow.Author.Tests.{eq-eqb, ne_eqb}
use Rattle.basis.proofs.Truth.{same_truth}
use Rattle.calibration.specs.Date.{is_leap, days_in, is_real, packed, date_bytes}
use Rattle.calibration.specs.declared.date.Date.{Date}
use Rattle.calibration.proofs.Calendar.{Real, real_says, says_real, month_least, month_most, days_bound, leap_here, either_way}
use Rattle.calibration.proofs.Calendar.{february_leap, february, Has30, days_30, Has31, days_31, july_august}
use Rattle.calibration_laws.specs.Plain.{RealDate, digit_bytes}

-- a month is February, one of 30 days, or one of 31
kind_of_month : (m : ℕ) → 1 ≤ m → m ≤ 12 → (m ≡ 2) ⊎ Has30 m ⊎ Has31 m ⊎ ((m ≡ 7) ⊎ (m ≡ 8))
kind_of_month zero lo hi = absurd (omega arith)
kind_of_month (suc zero) lo hi = inr (inr (inl (inl refl)))
kind_of_month (suc (suc zero)) lo hi = inl refl
kind_of_month (suc (suc (suc zero))) lo hi = inr (inr (inl (inr (inl refl))))
kind_of_month (suc (suc (suc (suc zero)))) lo hi = inr (inl (inl refl))
kind_of_month (suc (suc (suc (suc (suc zero))))) lo hi = inr (inr (inl (inr (inr (inl refl)))))
kind_of_month (suc (suc (suc (suc (suc (suc zero)))))) lo hi = inr (inl (inr (inl refl)))
kind_of_month (suc (suc (suc (suc (suc (suc (suc zero))))))) lo hi = inr (inr (inr (inl refl)))
kind_of_month (suc (suc (suc (suc (suc (suc (suc (suc zero)))))))) lo hi = inr (inr (inr (inr refl)))
kind_of_month (suc (suc (suc (suc (suc (suc (suc (suc (suc zero))))))))) lo hi = inr (inl (inr (inr (inl refl))))
kind_of_month (suc (suc (suc (suc (suc (suc (suc (suc (suc (suc zero)))))))))) lo hi = inr (inr (inl (inr (inr (inr (inl refl))))))
kind_of_month (suc (suc (suc (suc (suc (suc (suc (suc (suc (suc (suc zero))))))))))) lo hi = inr (inl (inr (inr (inr refl))))
kind_of_month (suc (suc (suc (suc (suc (suc (suc (suc (suc (suc (suc (suc zero)))))))))))) lo hi = inr (inr (inl (inr (inr (inr (inr refl))))))
kind_of_month (suc (suc (suc (suc (suc (suc (suc (suc (suc (suc (suc (suc (suc m))))))))))))) lo hi = absurd (omega arith)

module _ (d : Date) where
  leap_year : 2000 ≤ d.year → d.year ≤ 2099 → d.year % 4 ≡ 0 → is_leap d.year ≡ true
  leap_year lo hi h = leap_here d.year lo hi ∙ eq-eqb (d.year % 4) 0 h

  other_year : 2000 ≤ d.year → d.year ≤ 2099 → (d.year % 4 ≡ 0 → ⊥) → is_leap d.year ≡ false
  other_year lo hi h = leap_here d.year lo hi ∙ ne_eqb (d.year % 4) 0 h

  plainly : Real d → RealDate d
  plainly r =
      let y = d.year in
      let m = d.month in
      record {
        since = r.since;
        until = r.until;
        first_month = month_least d r;
        last_month = month_most d r;
        first_day = r.first;
        last_day = omega (arith, r.last, days_bound y m);
        short_month = λ h. omega (arith, r.last, days_30 y m h);
        february =
            λ h. elim (ℕ_discrete (y % 4) 0) [
              | yes e ↦ omega (arith, r.last, february_leap y m h (leap_year r.since r.until e))
              | no e ↦ omega (arith, r.last, february y m h (other_year r.since r.until e))
            ];
        no_leap_year = λ h n. omega (arith, r.last, february y m h (other_year r.since r.until n));
      }

  last_of_month : RealDate d → d.day ≤ days_in d.year d.month
  last_of_month r =
      let y = d.year in
      let m = d.month in
      elim (kind_of_month m r.first_month r.last_month) [
        | inl h ↦ elim (ℕ_discrete (y % 4) 0) [
          | yes e ↦ omega (arith, r.february h, february_leap y m h (leap_year r.since r.until e))
          | no e ↦ omega (arith, r.no_leap_year h e, february y m h (other_year r.since r.until e))
        ]
        | inr k ↦ elim k [
          | inl h ↦ omega (arith, r.short_month h, days_30 y m h)
          | inr l ↦ elim l [
            | inl h ↦ omega (arith, r.last_day, days_31 y m h)
            | inr h ↦ omega (arith, r.last_day, july_august y m h)
          ]
        ]
      ]

  -- the bounds that the laws of the calendar take
  pub bounds : RealDate d → Real d
  bounds r = record { since = r.since; until = r.until; first = r.first_day; last = last_of_month r }

  -- there is such a date exactly if it is a real date in plain words (rule 19.4)
  pub real_date : (is_real d ≡ true) ↔ RealDate d
  real_date = (λ e. plainly (real_says d e), λ r. says_real d (bounds r))

-- a date that is not real
pub unreal : (d : Date) → (RealDate d → ⊥) → is_real d ≡ false
unreal d n = sym (same_truth false (is_real d) (λ e. cc) (λ e. absurd (n ((real_date d).0 e))))

-- a date with these bounds is real
pub real_of : (d : Date) → 2000 ≤ d.year → d.year ≤ 2099 → 1 ≤ d.day → d.day ≤ days_in d.year d.month → RealDate d
real_of d a b c e = plainly d (record { since = a; until = b; first = c; last = e })

-- every month has at least 28 days, and December 31
pub some_days : (y m : ℕ) → 1 ≤ m → m ≤ 12 → 28 ≤ days_in y m
some_days y m lo hi =
    elim (kind_of_month m lo hi) [
      | inl h ↦ either_way (is_leap y) (λ e. omega (arith, february_leap y m h e)) (λ e. omega (arith, february y m h e))
      | inr k ↦ elim k [
        | inl h ↦ omega (arith, days_30 y m h)
        | inr l ↦ elim l [
          | inl h ↦ omega (arith, days_31 y m h)
          | inr h ↦ omega (arith, july_august y m h)
        ]
      ]
    ]

pub december : (y : ℕ) → days_in y 12 ≡ 31
december y = days_31 y 12 (inr (inr (inr (inr refl))))

-- the rule of the hundreds, in the century and beside it (rule 19.4)
pub hundreds : (is_leap 1900 ≡ false) × (is_leap 2000 ≡ true) × (is_leap 2100 ≡ false)
unfolding is_leap
hundreds = (refl, refl, refl)

-- the bytes of a date are its eight digits (rule 19.3)
pub date_digits : (d : Date) → date_bytes d ≡ digit_bytes d
unfolding date_bytes packed
date_digits d =
    let y = d.year in
    let a : y / 100 / 10 ≡ y / 1000 = omega arith in
    let b : y % 100 / 10 ≡ y / 10 % 10 = omega arith in
    let c : y % 100 % 10 ≡ y % 10 = omega arith in
    rw (a, b, c)
