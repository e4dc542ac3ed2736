-- Laws of the exported walk of chunks (rule 18.10).
--   length_81 .. kind_6 (States): the state that three numbers stand for, kind by kind
--   eight_numbers, row_said, row_told, chunk_told, close_told (Rows): a row has eight numbers, and the row that the
--     code puts together is that of the call
--   gorvisclen_take_chunk, gorvisclen_close_chunks (OneReply): each promise allows one reply and one content of the
--     lent slice
--   numbers_there_and_back (Back): a state whose bytes are below 256 is the state that its numbers stand for;
--     numbers_apart: no two such states have the same numbers; state_bytes, state_handed_back: any three numbers are
--     such a state, and so is the state after a chunk, so that the numbers of a row, handed in again, lose nothing
--   ForHosts: what a host sees of a chunk in plain words: the status and the eight numbers, by what the call comes to
--     (more_needed, head_told, head_and_end_told, end_told, refusal_told, complete_told) and by kind (kind_0_no_byte ..
--     kind_9_repeats_12), and with a row that is too short (.._not_told, .._without_row); and the same of closing
--     (closed_at_a_boundary .. closed_after_12)
pub mod States
pub mod Rows
pub mod OneReply
pub mod Back
pub mod ForHosts
