-- Theorems about building a command, over the definitions that the promises of `builder` and `builder_compare` name.
--   case_used (Cases): what each case is used for. by_le, by_data (Cases): what holds of every case that can be used.
--   le_none, lc_part, lc_long, le_long (Cases): how long Lc and Le are without Le, in a part, and over 255 data bytes.
--   le_read, extended_read (LeWritten): which expected length is written, and when lengths are extended, case by case.
--   lowered_twice, lowered_written, lowered_le (LeWritten): a builder whose expected length is lowered.
--   built_read (Read): what is written is read back, in both readings, with the same header, data and expected length.
--   built_ff (Read): a command of class 0xFF is refused with 3.
--   command_in_buffer, written_read (Written): `serialize_into` leaves the command in the buffer, and it is read back.
--   new_ff, new_long, new_ok, new_made, made_read (Made): what `new` replies, and that its command is read back.
--   max_equal, own_equal, lowered_differs, max_differs (Compare): what the comparison says (docs/DIFFERENCES.md).
-- What guards them: `expected` builds `Expected` (0 to 65,535, or Max); the parser, whose `parse` the conclusion names,
-- fixes `view_for` and `extended_for`; `LeRead`, `ExtendedRead` and `Made` are statements in numbers.
-- Tests of these statements, which change a definition: `case_2e_read_as_short`, `made_for_65534`, `max_as_65535`,
-- `le_not_lowered`.
pub mod Cases
pub mod LeWritten
pub mod Read
pub mod Made
pub mod Written
pub mod Compare
