-- Laws of a record that comes in chunks, and one reply for each operation. Theorems about whole records are in the
-- crate tlv_chunks_laws.
--
--   first_.., second_.., third_.., length_.., after_81, .._after_82 (Headers): what each byte of a header comes to
--   call_said (Calls): an answer says one call
--   header_goes_on, header_complete, header_unreadable, header_used_up (Calls): a header, by its byte at a place of the
--     chunk; from_the_start, no_byte, header_starts: where a chunk starts
--   head_empty, head_some (Calls): a header that is complete; value_needs_more, value_ends: a value
--   value_in_one_step (Calls): the bytes of a value, one after the other, are passed over in one step (rule 18.8)
--   new, take, close (OneReply): each promise allows one reply
pub mod Headers
pub mod Calls
pub mod OneReply
