-- Laws of the numbers written for the host, and one reply for each exported function.
pub mod LentSlices
pub mod OneReply
