-- Laws of the calibration profile, which the proofs of its functions cite, and one reply for each operation. The
-- theorems are in the crate calibration_laws.
--
--   leap_here, days_30, days_31 .. (Calendar): how many days a month has in the years 2000 to 2099
--   real_says, says_real (Calendar): the bounds of a real date
--   earlier_year, earlier_month, earlier_day, by_year, by_month, by_day (Calendar): the order of dates is that of the
--     numbers of their days
--   heads_template, template_parts, all_heads, other_head (Form): bytes are of the form exactly if four tags with their
--     lengths stand at their places
--   digits_packed, packed_digits, date_back, bytes_back (Digits): digits and dates correspond one to one
--   by_form, read_says, fields_told, refusal_told (Read): the ways that a reading can go, and what each says
--   lapsed_refused, lapsed_unreal, lapsed_real (Lapsing): whether a record has lapsed
--   whose_card, whose_desk, whose_none, shown_inside (Due): whose due date is shown, and that it lies in the record
--   no_serial, no_date, no_room, written (Written): the ways that the builder can answer
pub mod Calendar
pub mod Form
pub mod Digits
pub mod Read
pub mod Lapsing
pub mod Due
pub mod Written
pub mod OneReply
