-- What a real date, the form of a record, and the bytes of some fields are, in plain words (rules 19.1 to 19.4).
use Rattle.std.specs.Prelude.{ℕ, ◌+◌, ◌*◌, ◌/◌, ◌%◌, ◌≤◌, ◌<◌, ◌≡◌, ◌⊎◌, List, [], ◌∷◌, ◌++◌, length}
use Rattle.basis.specs.Number.{Bytes}
use Rattle.calibration.specs.Profile.{Fields}
use Rattle.calibration.specs.declared.date.Date.{Date}

-- a real date of the years 2000 to 2099 (rule 19.4)
pub record RealDate (d : Date) : Type 0 where
  pub since : 2000 ≤ d.year
  pub until : d.year ≤ 2099
  pub first_month : 1 ≤ d.month
  pub last_month : d.month ≤ 12
  pub first_day : 1 ≤ d.day
  pub last_day : d.day ≤ 31
  pub short_month : (d.month ≡ 4) ⊎ (d.month ≡ 6) ⊎ (d.month ≡ 9) ⊎ (d.month ≡ 11) → d.day ≤ 30
  pub february : d.month ≡ 2 → d.day ≤ 29
  pub no_leap_year : d.month ≡ 2 → (d.year % 4 ≡ 0 → ⊥) → d.day ≤ 28

-- the first of two dates is earlier, by year, then by month, then by day (rule 19.6)
abbrev pub Earlier : Date → Date → Type 0
Earlier d e =
    (d.year < e.year) ⊎ ((d.year ≡ e.year) × (d.month < e.month))
    ⊎ ((d.year ≡ e.year) × (d.month ≡ e.month) × (d.day < e.day))

-- the eight decimal digits of a date, two in a byte (rule 19.3)
abbrev pub digit_bytes : Date → List ℕ
digit_bytes d =
    (d.year / 1000 * 16 + d.year / 100 % 10) ∷ (d.year / 10 % 10 * 16 + d.year % 10)
    ∷ (d.month / 10 * 16 + d.month % 10) ∷ (d.day / 10 * 16 + d.day % 10) ∷ []

-- the bytes of a record with these three values (rule 19.1)
abbrev pub form_bytes : List ℕ → List ℕ → List ℕ → List ℕ
form_bytes serial due capacity =
    0xE1 ∷ (length serial + 14) ∷ 0xC1 ∷ length serial ∷ (serial ++ (0xC2 ∷ 4 ∷ (due ++ (0xC3 ∷ 4 ∷ capacity))))

-- bytes of this form, whatever the date is (rules 19.1 and 19.2)
pub record OfForm (s : List ℕ) : Type 0 where
  pub serial : List ℕ
  pub due : List ℕ
  pub capacity : List ℕ
  pub least : 1 ≤ length serial
  pub most : length serial ≤ 16
  pub four_of_date : length due ≡ 4
  pub four_of_capacity : length capacity ≡ 4
  pub whole : s ≡ form_bytes serial due capacity

-- the same if the date's bytes are those of no real date (rule 19.5)
pub record NoDate (s : List ℕ) : Type 0 where
  pub form : OfForm s
  pub none : (d : Date) → RealDate d → form.due ≡ digit_bytes d → ⊥

-- fields that a record can have (rule 19.2)
pub record InRange (f : Fields) : Type 0 where
  pub bytes : Bytes f.serial
  pub least : 1 ≤ length f.serial
  pub most : length f.serial ≤ 16
  pub real : RealDate f.due
  pub four_bytes : f.capacity < 4294967296

-- the record of some fields: their bytes one by one (rules 19.1 to 19.3). Fields and bytes correspond one to one (rule
-- 19.10)
abbrev pub plain_record : Fields → List ℕ
plain_record f =
    form_bytes f.serial (digit_bytes f.due)
    (f.capacity / 16777216 % 256 ∷ f.capacity / 65536 % 256 ∷ f.capacity / 256 % 256 ∷ f.capacity % 256 ∷ [])
