-- The definitions for the theorems about the calibration profile: Plain, what a form, a date and fields are in plain
-- words; Next, the day after a date; Text, dates compared as text, which is the fault of the booking system.
pub mod Plain
pub mod Next
pub mod Text
