-- Theorems about the calibration profile, over the promises of the crate calibration.
--
-- Dates (RealDates; rules 19.3 and 19.4):
--   real_date: there is such a date exactly if it is a real one in plain words, which RealDate writes out: no table, no
--     rule of leap years but "every fourth year"; hundreds: the definition has that of the hundreds, too
--   date_digits: the bytes of a date are its eight digits, two in a byte
-- The number of a day (Days; rule 19.6):
--   day_after_lem: it grows by one from each real date to the next day, and real_after: that is a real date, but after the
--     last day of the century; first_number, last_number: it is 0 on the first day and 36,524 on the last
--   date_with_number, number_of_date: so the dates of the century, day by day from the first, are all real dates, each
--     once: they guard `day_after` and `date_after`
--   order_of_days: a date is earlier, by year, then by month, then by day, exactly if its number is smaller; days_apart
-- Forms and refusals (Forms; rules 19.1, 19.5, 1.32 and 1.33), over the definition:
--   form_says: bytes are of this form exactly if they are, byte by byte; refused_26, refused_27: exactly when;
--   no_other_refusal
-- Fields and bytes (OneToOne; rule 19.10), over the definition:
--   accepted: bytes are read as some fields exactly if these are in range and the bytes are theirs, written out one by
--     one; built_read, read_built, fields_apart, bytes_apart: its parts, and what follows
-- The same over promises, with plain hypotheses (Readings; rules 19.5, 19.9 and 19.10):
--   read_exactly, read_refused_26, read_refused_27, serial_none: what `read_profile` and `serial` answer, exactly when
--   put_refused_26, put_refused_27, put_refused_16, put_written: what `put_profile` answers and leaves in the buffer;
--     one of the four applies to every input
--   put_then_read, read_then_put: what was written is read back, and what was read is written again
-- Lapsed (Lapses; rule 19.6): one of the first three applies to every input.
--   lapsed_refused, lapsed_no_date, lapsed_days with not_lapsed_days; lapsed_earlier, not_on_the_day
-- The due date shown (DueShown; rules 19.7 and 19.8): shows_card, shows_desk, shows_none; one applies to every input
-- The lookup (Found; rule 19.11): due_found, due_value: E1, C2 leads to the due date of an accepted record, at the place
--   that `due_shown_from` tells, in every reading. byte_before, bytes_behind, not_by_lookup (rule 19.1): bytes around a
--   record are 26, also those that a lookup passes over
-- The booking system's fault (Booking; rule 19.6): as_text, by_the_calendar: 9 October against 10 November; dictionary
--   guards `stands_before`
-- Tests of these statements (must-fail/; all change definitions): digits_of_the_year_exchanged,
-- template_length_of_one_more, fields_of_17_bytes_in_range, capacity_low_byte_first, eleven_months, text_backwards,
-- november_of_31_days, the_same_day_earlier.
pub mod RealDates
pub mod Days
pub mod Forms
pub mod OneToOne
pub mod Readings
pub mod Lapses
pub mod DueShown
pub mod Found
pub mod Booking
