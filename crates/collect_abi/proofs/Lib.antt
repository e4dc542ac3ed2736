-- The proofs of the exported collection.
--   LentSlices: what starting, taking a response and copying the data leave in the slices that a host lends.
--     few_numbers: 16 wins over 22 and 23. no_state: 3 wins over 16. A refusal leaves the room (room_kept).
--     sent_serialized: what is to be sent is the command of a builder, so what writing it leaves is said in `abi`
--     (SerializedLaws).
--   OneReply: any two replies and contents of lent slices that a promise allows are equal.
-- The other folders prove one function each.
pub mod LentSlices
pub mod OneReply
