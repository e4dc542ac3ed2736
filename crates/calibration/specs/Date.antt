-- Dates: real ones of the Gregorian calendar in the years 2000 to 2099 (rule 19.4), their bytes in packed decimal (rule
-- 19.3), and the number of a day, by which dates are compared (rule 19.6).
use Rattle.std.specs.Prelude.{ℕ, zero, suc, ◌+◌, ◌-◌, ◌*◌, ◌/◌, ◌%◌, Bool, Option, Some, None, cond, ◌&&◌, List, [], ◌∷◌, ltb, leb, eqb, get_or}
use Rattle.std.specs.Ordering.{is_some_and, is_lt, nat_cmp, partial_ordering_then}
use Rattle.basis.specs.Reply.{Reply, ok, refused}
use Rattle.calibration.specs.declared.date.Date.{Date}

-- a leap year of the Gregorian calendar: every fourth year, but of the hundreds every fourth only
unfoldable pub is_leap : ℕ → Bool
is_leap y = cond (eqb (y % 100) 0) (eqb (y % 400) 0) (eqb (y % 4) 0)

-- how many days each month of a year has, from January on
unfoldable pub month_days : ℕ → List ℕ
month_days y = 31 ∷ cond (is_leap y) 29 28 ∷ 31 ∷ 30 ∷ 31 ∷ 30 ∷ 31 ∷ 31 ∷ 30 ∷ 31 ∷ 30 ∷ 31 ∷ []

-- how many days a month has by its number, from 1 to 12; a month of any other number has none
unfoldable pub days_in : ℕ → ℕ → ℕ
days_in y m = get_or (0 ∷ month_days y) m 0

-- whether there is such a date (rule 19.4)
unfoldable pub is_real : Date → Bool
is_real d = leb 2000 d.year && leb d.year 2099 && leb 1 d.day && leb d.day (days_in d.year d.month)

-- the sum of f 0 to f (n - 1)
unfoldable pub sum_to : ℕ → (ℕ → ℕ) → ℕ
sum_to zero f = 0
sum_to (suc n) f = sum_to n f + f n

-- how many days a year has: those of its months
unfoldable pub year_days : ℕ → ℕ
year_days y = sum_to 13 (days_in y)

-- the number of a day, counted from 1 January 2000, which has number 0: the days of the years before, of the months
-- before, and of the month (rule 19.6)
unfoldable pub day_number : Date → ℕ
day_number d = sum_to (d.year - 2000) (λ k. year_days (2000 + k)) + sum_to d.month (days_in d.year) + (d.day - 1)

-- whether a date is earlier than another one: its day has the smaller number (rule 19.6)
unfoldable pub is_earlier : Date → Date → Bool
is_earlier d e = ltb (day_number d) (day_number e)

-- the contract of the private `is_earlier`: dates are compared by year, then by month, then by day
abbrev pub precedes : Date → Date → Bool
precedes d e =
    is_some_and is_lt
    (partial_ordering_then (partial_ordering_then (Some (nat_cmp d.year e.year)) (Some (nat_cmp d.month e.month))) (Some (nat_cmp d.day e.day)))

-- whether a byte has two decimal digits, and the number that they say (rule 19.3)
unfoldable pub is_decimal : ℕ → Bool
is_decimal b = leb (b / 16) 9 && leb (b % 16) 9

unfoldable pub two_digits : ℕ → ℕ
two_digits b = b / 16 * 10 + b % 16

-- the same of four bytes: year, month and day (rule 19.3)
unfoldable pub are_packed : List ℕ → Bool
are_packed b = is_decimal (get_or b 0 0) && is_decimal (get_or b 1 0) && is_decimal (get_or b 2 0) && is_decimal (get_or b 3 0)

unfoldable pub date_in : List ℕ → Date
date_in b =
    record {
      year = two_digits (get_or b 0 0) * 100 + two_digits (get_or b 1 0);
      month = two_digits (get_or b 2 0);
      day = two_digits (get_or b 3 0);
    }

-- the date that four bytes say: 27 if they are no packed decimal or there is no such date (rules 1.33 and 19.5)
unfoldable pub date_of : List ℕ → Reply Date
date_of b = cond (are_packed b && is_real (date_in b)) (ok (date_in b)) (refused 27)

-- a number below 100 as two decimal digits in a byte, and the four bytes of a date (rule 19.3)
unfoldable pub packed : ℕ → ℕ
packed n = n / 10 * 16 + n % 10

unfoldable pub date_bytes : Date → List ℕ
date_bytes d = packed (d.year / 100) ∷ packed (d.year % 100) ∷ packed d.month ∷ packed d.day ∷ []

-- an answer of the code as a reply
abbrev pub date_reply : Option Date → Reply Date
date_reply (Some d) = ok d
date_reply None = refused 27
