-- Laws of reading a command. Crates above use them and unfold no definition of the parser.
--   within, part_is_data (Parsing): the data are a part of the command, at the place that is stated.
--   measured (Parsing): the length of a command is four plus the bytes of Lc, data and Le.
--   no_fields, short_le, short_data, short_data_le, extended_le, extended_data, extended_data_le (Cases): what a header
--     and a body are read as in each of the seven cases, in both readings.
--   short_refused, two_bytes_refused, extended_refused, class_ff (Cases): when a command is refused with 4, 5 and 3.
--   readings_differ (Readings): on exactly which commands the readings differ; it fixes `ZeroLc` from both sides.
--   zero_lc, zero_lc_le (Readings): what the two readings say there. Their hypotheses are about bytes and lengths only.
--   not_read, too_long, copy, no_room, extended (Rooms): when a copy and an extension are refused, and what they leave
--     in the room.
--   view_try_from, data_part, try_from, extend_from_command_view (OneReply): each promise allows one reply.
-- Lengths.antt has the laws of the body that the others and the proofs of body.rt share.
pub mod Lengths
pub mod Parsing
pub mod Rooms
pub mod Readings
pub mod Cases
pub mod OneReply
