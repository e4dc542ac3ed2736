-- Laws of the numbers written for the host and of the part copied, and one reply for each exported function.
pub mod LentSlices
pub mod OneReply
