-- Laws of the calendar: the years 2000 to 2099, and the order of their days (rules 19.4 and 19.6).
use Prim.Native.Nat.{ℕ, zero, suc, ◌+◌, ◌-◌, ◌%◌, ◌≤◌, ◌<◌}
use mathlib.Core.Path.{◌≡◌, refl, sym, ap, ◌∙◌}
use mathlib.Core.Logic.{◌⊎◌, inl, inr}
use mathlib.Core.Bool.{Bool, true, false, ◌&&◌, and-eq-true_iff}
use mathlib.Core.List.{List, [], ◌∷◌}
use native.Mathlib.Decide.{dec_le, ℕ_discrete}
use native.Mathlib.Omega.{arith}
use lib.Dec.{ltb, leb, eqb}
use lib.ListN.{get_or, get_or-eq_default}
use borrow.Author.Tests.{leb-true, le-leb, lt-ltb, le-ltb, eq-eqb, ne_eqb}
use Rattle.std.specs.Prelude.{Option, Some}
use Rattle.std.proofs.Common.{Ordering, Less, Equal, Greater}
use Rattle.std.specs.Ordering.{is_some_and, is_lt, nat_cmp, partial_ordering_then}
use Rattle.calibration.specs.Date.{is_earlier, precedes, is_leap, month_days, days_in, is_real, sum_to, year_days, day_number}
use Rattle.calibration.specs.declared.date.Date.{Date}

-- from 2000 to 2099 every fourth year is a leap year
pub leap_here : (y : ℕ) → 2000 ≤ y → y ≤ 2099 → is_leap y ≡ eqb (y % 4) 0
unfolding is_leap
leap_here y lo hi =
    elim (ℕ_discrete (y % 100) 0) [
      | yes h ↦ rw (eq-eqb (y % 100) 0 h, eq-eqb (y % 400) 0 (omega arith), eq-eqb (y % 4) 0 (omega arith))
      | no h ↦ rw (ne_eqb (y % 100) 0 h)
    ]

-- a test goes one way or the other
pub either_way : {P : Type 0} (b : Bool) → (b ≡ true → P) → (b ≡ false → P) → P
either_way true h g = h refl
either_way false h g = g refl

-- a bound of all elements holds of each one by its place
abbrev all_at_most : ℕ → List ℕ → Bool
all_at_most k [] = true
all_at_most k (n ∷ l) = leb n k && all_at_most k l

each_at_most : (k : ℕ) (l : List ℕ) → all_at_most k l ≡ true → (i : ℕ) → get_or l i 0 ≤ k
each_at_most k [] h i = omega (arith, get_or-eq_default {A = ℕ} [] 0 {n = i} (omega arith))
each_at_most k (n ∷ l) h zero = leb-true n k ((and-eq-true_iff (leb n k) (all_at_most k l)).0 h).0
each_at_most k (n ∷ l) h (suc i) = each_at_most k l ((and-eq-true_iff (leb n k) (all_at_most k l)).0 h).1 i

-- no month has more than 31 days; there is no month 0, and none above 12
pub days_bound : (y m : ℕ) → days_in y m ≤ 31
unfolding days_in month_days
days_bound y m = each_at_most 31 (0 ∷ month_days y) (either_way (is_leap y) (λ e. rw e) (λ e. rw e)) m

pub no_such_month : (y m : ℕ) → 13 ≤ m → days_in y m ≡ 0
unfolding days_in month_days
no_such_month y m h = get_or-eq_default (0 ∷ month_days y) 0 {n = m} h

pub no_month_zero : (y : ℕ) → days_in y 0 ≡ 0
unfolding days_in
no_month_zero y = refl

-- the days of a month by its number
module _ (y m : ℕ) where
  pub february_leap : m ≡ 2 → is_leap y ≡ true → days_in y m ≡ 29
  unfolding days_in month_days
  february_leap e l = rw (e, l)

  pub february : m ≡ 2 → is_leap y ≡ false → days_in y m ≡ 28
  unfolding days_in month_days
  february e l = rw (e, l)

-- the months of 30 days
abbrev pub Has30 : ℕ → Type 0
Has30 m = (m ≡ 4) ⊎ (m ≡ 6) ⊎ (m ≡ 9) ⊎ (m ≡ 11)

pub days_30 : (y m : ℕ) → Has30 m → days_in y m ≡ 30
unfolding days_in month_days
days_30 y m (inl e) = rw e
days_30 y m (inr (inl e)) = rw e
days_30 y m (inr (inr (inl e))) = rw e
days_30 y m (inr (inr (inr e))) = rw e

-- those of 31 days, without July and August; these two
abbrev pub Has31 : ℕ → Type 0
Has31 m = (m ≡ 1) ⊎ (m ≡ 3) ⊎ (m ≡ 5) ⊎ (m ≡ 10) ⊎ (m ≡ 12)

pub days_31 : (y m : ℕ) → Has31 m → days_in y m ≡ 31
unfolding days_in month_days
days_31 y m (inl e) = rw e
days_31 y m (inr (inl e)) = rw e
days_31 y m (inr (inr (inl e))) = rw e
days_31 y m (inr (inr (inr (inl e)))) = rw e
days_31 y m (inr (inr (inr (inr e)))) = rw e

pub july_august : (y m : ℕ) → (m ≡ 7) ⊎ (m ≡ 8) → days_in y m ≡ 31
unfolding days_in month_days
july_august y m (inl e) = rw e
july_august y m (inr e) = rw e

-- a number from k on that is not k is above it
past : (m k : ℕ) → k ≤ m → (m ≡ k → ⊥) → suc k ≤ m
past m k h n = omega (arith, h, n)

-- a month that is none of these: before 9 it is July or August, or there is no such month
module _ (y m : ℕ) (f : m ≡ 2 → ⊥) (t : Has30 m → ⊥) (u : Has31 m → ⊥) where
  pub other_to_8 : 1 ≤ m → m < 9 → days_in y m ≡ 31
  other_to_8 lo hi =
      let from-3 : 3 ≤ m = past m 2 (past m 1 lo (λ e. u (inl e))) f in
      let from-5 : 5 ≤ m = past m 4 (past m 3 from-3 (λ e. u (inr (inl e)))) (λ e. t (inl e)) in
      let from-7 : 7 ≤ m = past m 6 (past m 5 from-5 (λ e. u (inr (inr (inl e))))) (λ e. t (inr (inl e))) in
      july_august y m (elim (ℕ_discrete m 7) [ yes e ↦ inl e | no e ↦ inr (omega (arith, hi, past m 7 from-7 e)) ])

  pub other_from_9 : 9 ≤ m → days_in y m ≡ 0
  other_from_9 lo =
      let from-11 : 11 ≤ m = past m 10 (past m 9 lo (λ e. t (inr (inr (inl e))))) (λ e. u (inr (inr (inr (inl e))))) in
      let from-13 : 13 ≤ m = past m 12 (past m 11 from-11 (λ e. t (inr (inr (inr e))))) (λ e. u (inr (inr (inr (inr e))))) in
      no_such_month y m from-13

-- what it means that there is such a date, in plain words
pub record Real (d : Date) : Type 0 where
  pub since : 2000 ≤ d.year
  pub until : d.year ≤ 2099
  pub first : 1 ≤ d.day
  pub last : d.day ≤ days_in d.year d.month

pub real_says : (d : Date) → is_real d ≡ true → Real d
unfolding is_real
real_says d e =
    let y = d.year in
    let k = d.day in
    let n = days_in y d.month in
    let a = (and-eq-true_iff (leb 2000 y && leb y 2099 && leb 1 k) (leb k n)).0 e in
    let b = (and-eq-true_iff (leb 2000 y && leb y 2099) (leb 1 k)).0 a.0 in
    let c = (and-eq-true_iff (leb 2000 y) (leb y 2099)).0 b.0 in
    record {
      since = leb-true 2000 y c.0;
      until = leb-true y 2099 c.1;
      first = leb-true 1 k b.1;
      last = leb-true k n a.1;
    }

pub says_real : (d : Date) → Real d → is_real d ≡ true
unfolding is_real
says_real d r =
    rw (
      le-leb 2000 d.year r.since,
      le-leb d.year 2099 r.until,
      le-leb 1 d.day r.first,
      le-leb d.day (days_in d.year d.month) r.last,
    )

-- the month of a real date is one of the twelve
pub month_least : (d : Date) → Real d → 1 ≤ d.month
month_least d r =
    elim (ℕ_discrete d.month 0) [
      | yes h ↦ absurd (omega (arith, r.first, r.last, ap (days_in d.year) h ∙ no_month_zero d.year))
      | no h ↦ omega arith
    ]

pub month_most : (d : Date) → Real d → d.month ≤ 12
month_most d r =
    elim (dec_le d.month 12) [
      | yes h ↦ h
      | no h ↦ absurd (omega (arith, r.first, r.last, no_such_month d.year d.month (omega arith)))
    ]

-- a sum has grown at least by each of its parts
pub sum_grows : (f : ℕ → ℕ) (a b : ℕ) → a < b → sum_to a f + f a ≤ sum_to b f
unfolding sum_to
sum_grows f a zero h = absurd (omega arith)
sum_grows f a (suc b) h =
    elim (ℕ_discrete a b) [
      | yes e ↦ rw e (omega arith)
      | no e ↦ omega (arith, sum_grows f a b (omega arith))
    ]

-- a year's days so far, with those of a real date of it
module _ (d : Date) (r : Real d) where
  within_year : sum_to d.month (days_in d.year) + (d.day - 1) < year_days d.year
  unfolding year_days
  within_year = omega (arith, sum_grows (days_in d.year) d.month 13 (omega (arith, month_most d r)), r.first, r.last)

-- the days of the years before
abbrev before_year : ℕ → ℕ
before_year y = sum_to (y - 2000) (λ k. year_days (2000 + k))

years_grow : (y z : ℕ) → 2000 ≤ y → y < z → before_year y + year_days y ≤ before_year z
years_grow y z lo h =
    let same : 2000 + (y - 2000) ≡ y = omega arith in
    rw same at (sum_grows (λ k. year_days (2000 + k)) (y - 2000) (z - 2000) (omega arith))

-- a real date with the earlier year, or in one year with the earlier month, or in one month with the earlier day, has
-- the smaller number
module _ (d e : Date) (r : Real d) (s : Real e) where
  pub earlier_year : d.year < e.year → day_number d < day_number e
  unfolding day_number
  earlier_year h = omega (arith, within_year d r, years_grow d.year e.year r.since h)

  pub earlier_month : d.year ≡ e.year → d.month < e.month → day_number d < day_number e
  unfolding day_number
  earlier_month y h =
      let months = sum_grows (days_in d.year) d.month e.month h in
      let before = ap before_year y in
      let same = ap (λ (z : ℕ). sum_to e.month (days_in z)) y in
      omega (arith, months, before, same, r.first, r.last)

  pub earlier_day : d.year ≡ e.year → d.month ≡ e.month → d.day < e.day → day_number d < day_number e
  unfolding day_number
  earlier_day y m h =
      let before = ap before_year y in
      let same = ap (λ (z : ℕ). sum_to d.month (days_in z)) y ∙ ap (λ (k : ℕ). sum_to k (days_in e.year)) m in
      omega (arith, before, same, r.first)

-- two tests agree if each way of the one decides the other
tests_agree : (m n p q : ℕ) → (m < n → p < q) → (n ≤ m → q ≤ p) → ltb m n ≡ ltb p q
tests_agree m n p q f g =
    elim (dec_le n m) [
      | yes h ↦ le-ltb m n h ∙ sym (le-ltb p q (g h))
      | no h ↦ lt-ltb m n (omega arith) ∙ sym (lt-ltb p q (f (omega arith)))
    ]

-- so dates are compared by year, then by month, then by day (rule 19.6)
module _ (d e : Date) (r : Real d) (s : Real e) where
  pub by_year : (d.year ≡ e.year → ⊥) → ltb d.year e.year ≡ ltb (day_number d) (day_number e)
  by_year n =
      tests_agree d.year e.year (day_number d) (day_number e) (earlier_year d e r s) (λ h. omega (arith, earlier_year e d s r (omega (arith, n, h))))

  pub by_month : d.year ≡ e.year → (d.month ≡ e.month → ⊥) → ltb d.month e.month ≡ ltb (day_number d) (day_number e)
  by_month y n =
      tests_agree d.month e.month (day_number d) (day_number e) (earlier_month d e r s y)
      (λ h. omega (arith, earlier_month e d s r (sym y) (omega (arith, n, h))))

  pub by_day : d.year ≡ e.year → d.month ≡ e.month → ltb d.day e.day ≡ ltb (day_number d) (day_number e)
  by_day y m =
      tests_agree d.day e.day (day_number d) (day_number e) (earlier_day d e r s y m) (λ h.
      elim (ℕ_discrete d.day e.day) [
        | yes same ↦ omega (arith, same_day same)
        | no other ↦ omega (arith, earlier_day e d s r (sym y) (sym m) (omega (arith, other, h)))
      ])
    where
      same_day : d.day ≡ e.day → day_number d ≡ day_number e
      same_day k = λ i. day_number (record { year = y i; month = m i; day = k i })

-- numbers that differ decide the comparison
cmp_other : (x y : ℕ) (o : Option Ordering) → (x ≡ y → ⊥) → is_some_and is_lt (partial_ordering_then (Some (nat_cmp x y)) o) ≡ ltb x y
cmp_other x y o n =
    elim (dec_le y x) [
      | yes h ↦ rw (le-ltb x y h, ne_eqb x y n)
      | no h ↦ rw (lt-ltb x y (omega arith))
    ]

cmp_same : (x y : ℕ) (o : Option Ordering) → x ≡ y → partial_ordering_then (Some (nat_cmp x y)) o ≡ o
cmp_same x y o e = rw (le-ltb x y (omega arith), eq-eqb x y e)

-- the first number decides, or the others do
then_assoc : (x y : ℕ) (o p : Option Ordering)
    → partial_ordering_then (partial_ordering_then (Some (nat_cmp x y)) o) p ≡ partial_ordering_then (Some (nat_cmp x y)) (partial_ordering_then o p)
then_assoc x y o p = by_ordering (nat_cmp x y)
  where
    by_ordering : (k : Ordering) → partial_ordering_then (partial_ordering_then (Some k) o) p ≡ partial_ordering_then (Some k) (partial_ordering_then o p)
    by_ordering Less = refl
    by_ordering Equal = refl
    by_ordering Greater = refl

cmp_last : (x y : ℕ) → is_some_and is_lt (Some (nat_cmp x y)) ≡ ltb x y
cmp_last x y =
    elim (ℕ_discrete x y) [
      | yes e ↦ rw (le-ltb x y (omega arith), eq-eqb x y e)
      | no n ↦ elim (dec_le y x) [
        | yes h ↦ rw (le-ltb x y h, ne_eqb x y n)
        | no h ↦ rw (lt-ltb x y (omega arith))
      ]
    ]

-- so `<` on dates says which is earlier (rule 19.6)
pub ordered : (d e : Date) → is_real d ≡ true → is_real e ≡ true → precedes d e ≡ is_earlier d e
unfolding is_earlier
ordered d e p q =
    let r = real_says d p in
    let s = real_says e q in
    elim (ℕ_discrete d.year e.year) [
      | no n ↦
          ap (λ (o : Option Ordering). is_some_and is_lt o) (then_assoc d.year e.year _ _) ∙ cmp_other d.year e.year _ n ∙ by_year d e r s n
      | yes y ↦
          elim (ℕ_discrete d.month e.month) [
            | no n ↦ rw (cmp_same d.year e.year _ y) (cmp_other d.month e.month _ n ∙ by_month d e r s y n)
            | yes m ↦ rw (cmp_same d.year e.year _ y, cmp_same d.month e.month _ m) (cmp_last d.day e.day ∙ by_day d e r s y m)
          ]
    ]
