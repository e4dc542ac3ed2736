-- Theorems about the listing, and what makes each of them strong enough. `Shows`, `Shown` and `input_bytes` are written
-- out and have no hypothesis.
--
-- Encoded, about at most 60,000 bytes that some commands and records are written out as (`input_bytes`):
--   text_written: their text is the text of these commands and records.
--   text_refused: all other bytes print only `refused 20`. So the two are about every list of bytes.
--   written_formed, formed_written: such bytes are well-formed, and no others are.
--   commands_read, records_read: the items are these. So nobody has to trust that a missing byte counts as 0.
-- Tags:
--   tags_shown: the tag of an object is printed as the bytes at its place in the record, and nothing else.
-- Decimal:
--   decimal_shows: a number is printed in digits that show it, without a 0 in front.
-- Lines:
--   command_shown, refusal_shown: the line of a command, word by word, by what the crate reading parses.
--   record_shown: the lines of a record: its objects, and at its end the refusal, word by word, with its place.
--   empty_record: a record of no bytes prints nothing.
--   hexadecimal: every hexadecimal digit.
-- In crates/listing/proofs: what a record prints (LineLaws), and that every text fits (Longest).
--
-- Wrong definitions that are refused (must-fail/text_definitions.edit): lengths_of_three_bytes, value_printed_as_tag,
-- zero_without_a_digit, lc_and_le_exchanged, object_printed_as_place.
pub mod Decimal
pub mod Encoded
pub mod Tags
pub mod Lines
