-- The calendar day by day: the day after a date, and the dates from 1 January 2000 on (rule 19.6).
use Rattle.std.specs.Prelude.{ℕ, zero, suc, ◌+◌, cond, ltb}
use Rattle.calibration.specs.Date.{days_in}
use Rattle.calibration.specs.declared.date.Date.{Date}

abbrev pub date : ℕ → ℕ → ℕ → Date
date y m d = record { year = y; month = m; day = d }

-- the day after a date: the next of its month, or the first of the next month, or the first of the next year
unfoldable pub day_after : Date → Date
day_after d =
    cond (ltb d.day (days_in d.year d.month)) (date d.year d.month (d.day + 1))
    (cond (ltb d.month 12) (date d.year (d.month + 1) 1) (date (d.year + 1) 1 1))

-- the date n days after 1 January 2000
unfoldable pub date_after : ℕ → Date
date_after zero = date 2000 1 1
date_after (suc n) = day_after (date_after n)
