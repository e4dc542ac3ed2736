-- The fault of the booking system: 9 October and 10 November, compared as text and by the calendar (rule 19.6).
use Prim.Native.Nat.{ℕ}
use mathlib.Core.Path.{◌≡◌, refl, sym}
use mathlib.Core.Bool.{true, false}
use mathlib.Core.List.{List, [], ◌∷◌}
use Rattle.basis.specs.Ascii.{ascii}
use Rattle.basis.specs.Reply.{ok}
use Rattle.basis.specs.Number.{number}
use Rattle.byte_slices.specs.Slices.{same}
use Rattle.std.specs.Prelude.{Bool, Result, Ok}
use Rattle.basis.specs.declared.refusal.Refusal.{Refusal}
use Rattle.calibration.specs.Date.{is_leap, month_days, days_in, is_real, sum_to, year_days, day_number, is_earlier, is_decimal, two_digits, are_packed, date_in, date_of}
use Rattle.calibration.specs.Profile.{object, template, is_serial_len, is_profile, fields_of}
use Rattle.calibration.specs.Lapsed.{lapsed_of, HasLapsedIs}
use Rattle.calibration.proofs.OneReply.{has_lapsed}
use Rattle.calibration_laws.specs.Next.{date}
use Rattle.calibration_laws.specs.Text.{stands_before}

-- the order of texts is that of a dictionary: letter by letter, and a beginning stands before the whole
pub dictionary : (stands_before (ascii "10.10.2026") (ascii "10.11.2026") ≡ true) × (stands_before (ascii "10.11.2026") (ascii "10.10.2026") ≡ false)
    × (stands_before (ascii "1") (ascii "10") ≡ true) × (stands_before (ascii "10") (ascii "1") ≡ false)
    × (stands_before (ascii "10") (ascii "10") ≡ false)
unfolding stands_before
dictionary = (refl, refl, refl, refl, refl)

-- as text, 9 October stands after 10 November
pub as_text : (stands_before (ascii "9.10.2026") (ascii "10.11.2026") ≡ false) × (stands_before (ascii "10.11.2026") (ascii "9.10.2026") ≡ true)
unfolding stands_before
as_text = (refl, refl)

-- the record of a balance that is due on 9 October 2026, and of one that is due on 10 November 2026
pub due_9_october : List ℕ
due_9_october =
    0xE1 ∷ 0x0F ∷ 0xC1 ∷ 0x01 ∷ 0x41 ∷ 0xC2 ∷ 0x04 ∷ 0x20 ∷ 0x26 ∷ 0x10 ∷ 0x09
    ∷ 0xC3 ∷ 0x04 ∷ 0x00 ∷ 0x03 ∷ 0x0D ∷ 0x40 ∷ []

pub due_10_november : List ℕ
due_10_november =
    0xE1 ∷ 0x0F ∷ 0xC1 ∷ 0x01 ∷ 0x41 ∷ 0xC2 ∷ 0x04 ∷ 0x20 ∷ 0x26 ∷ 0x11 ∷ 0x10
    ∷ 0xC3 ∷ 0x04 ∷ 0x00 ∷ 0x03 ∷ 0x0D ∷ 0x40 ∷ []

computed : (lapsed_of due_9_october (date 2026 11 10) ≡ ok true) × (lapsed_of due_10_november (date 2026 10 9) ≡ ok false)
unfolding due_9_october due_10_november lapsed_of is_earlier fields_of is_profile is_serial_len template object same date_of date_in are_packed is_decimal two_digits is_real day_number year_days sum_to days_in month_days is_leap number
computed = (refl, refl)

-- by the calendar the first has lapsed on 10 November, and the second has not on 9 October
pub by_the_calendar : (x y : Result Bool Refusal) → HasLapsedIs due_9_october (date 2026 11 10) x → HasLapsedIs due_10_november (date 2026 10 9) y
    → (x ≡ Ok true) × (y ≡ Ok false)
by_the_calendar x y px py = (
  has_lapsed due_9_october (date 2026 11 10) x (Ok true) px (sym computed.0),
  has_lapsed due_10_november (date 2026 10 9) y (Ok false) py (sym computed.1),
)
