-- The proofs of a collection: laws of one response, and one reply for each operation.
--
-- Steps, what a response comes to:
--   calls_more, calls_again, calls_nothing: what a status calls for (61xx, 6Cxx, any other). Hypotheses are about SW1.
--   refused_kept: whatever the refusal is, the room stays. The state stays by the form of the answer, which then has
--     none.
--   from_22: no response is refused with a number below 22.
--   expected_other: xx is the expected length, unless it is 00. That 00 is 256 holds by computing.
-- OneReply: any two answers, rooms and buffers that a promise allows are equal.
pub mod Steps
pub mod OneReply
