-- Laws of what the exported writer leaves, and one reply for each exported function.
pub mod Writing
pub mod OneReply
