-- Laws of the exported functions of a calibration record.
--   no_row, put_refused, profile_written (Replies):
--     each promise, from what was called; numbers_by, serial_of, lapsed_by, shown_of, whose_by: the reply of each
--     export, by the answer of the crate `calibration`
--   gorvisclen_read_profile, .. (OneReply): each promise allows one reply and one content of the lent slices
--   numbers, no_numbers, short_row, bytes, short_room, no_bytes, no_number (Promises): what a promise says, by reply
--   ForHosts: what a host sees of each function, in plain words, for every input: fields_told, serial_told,
--     lapsed_told, not_lapsed_told, card_told, desk_told, card_place_told, desk_place_told, put_told; with a row that
--     is too short (.._not_told); with a record that is refused (.._refused; no_form_26, no_date_27 say when it is), no
--     such date (no_such_date, put_no_date_27), no such serial (no_serial_26, long_serial_26) or too little room
--     (.._too_long, put_no_room_16)
pub mod Replies
pub mod OneReply
pub mod Promises
pub mod ForHosts
