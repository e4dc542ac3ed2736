-- Laws of comparing a builder with a command.
--   eq (OneReply): the promise of `eq` allows one reply.
-- What the comparison says of Max and of a lowered Le is in the crate builder_laws (Compare).
pub mod OneReply
