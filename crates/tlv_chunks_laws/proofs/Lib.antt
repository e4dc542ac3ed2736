-- Theorems about a record in chunks, over the promises of `new`, `take` and `close` of the crate tlv_chunks.
--
-- Divisions (Divided; rule 18.5). `Session` says in plain words what a caller does: each chunk is handed in, and its rest
-- after each answer, up to the last answer:
--   run_append (Runs): the run over some bytes and then more is the run over the first, then over the others
--   divided_tells, divided_state: from a walk that `new` gives, the replies joined together and the final state are
--     those of the run over all bytes; divisions_agree: so any two divisions of a record agree in both
--   session_there, answers_there, answer_there (Exists): there is such a session for all chunks, from every state;
--     new_there, close_there: a walk to start from, and an answer to closing in every state
--   once_..: what "a repeated refusal once" leaves out
-- The whole record (Closed, Whole; rules 18.6 and 18.9):
--   closed_tells: all that chunks and the closing call tell, joined together, is what the whole walk says: head and end
--     of each object, the head of one that is cut, and the number of the stop
--   divided_objects, closed_objects: the finished objects are those of the whole walk, without closing and with it
--   closed_refusal, closed_number, closed_11, closed_12: one refusal is told, the number of the walk's stop, and the
--     closing call gives it
-- When 12 comes (Readable; rule 18.4):
--   refused_for_good, nothing_more_told: after it no more bytes can help
--   readable_yet: before it there are bytes with which all of the record is read. So it comes at the first byte that
--     makes the header unreadable, and not before
-- A stop (Stopped; rules 18.6 and 18.7):
--   take_after_11, take_after_12, close_after_11, close_after_12: every call repeats the number and changes nothing
--   refused_11_stops, refused_12_stops: a refused chunk has stopped the walk; only_closing_gives_11: 11 is the closing
--     call's; close_at_boundary, close_in_header, close_in_value: what closing answers
-- What a state says (Held, Whole; rules 18.2 and 18.5):
--   at_a_boundary, in_a_header, in_a_value: which bytes are left where the walk of the record stops; header_again: the
--     bytes of a header alone lead to its state; header_size, missing_bound: from 1 to 5 bytes, from 1 to 65,535 missing
-- Each answer (Replies, Answers; rules 18.1, 18.3 and 18.8):
--   head_answered, empty_answered, head_told, empty_told: a chunk that starts with a whole header
--   value_part_answered, value_end_answered, value_part_told, value_end_told: bytes of a value
--   value_unseen: what bytes of a value are does not matter, only how many they are
--   taken_tells, fewer_tell_nothing, need_more_all_taken, taken_within: the bytes that were taken
-- Tests of these statements (must-fail, definitions): repeated_refusal_told_again, chunk_left_after_a_head,
-- head_of_a_cut_object_not_told, header_81_shown_as_82, one_missing_byte_fewer, unfinished_object_counted.
pub mod Runs
pub mod Calls
pub mod Answers
pub mod Divided
pub mod Whole
pub mod Held
pub mod Closed
pub mod Stopped
pub mod Replies
pub mod Readable
pub mod Exists
