-- Laws of lists that hold the same bytes, and one reply for each operation.
--
--   same_equal, same_self (Slices): `same` is equality: each guards the other
--   other_length (Slices): what the callers of `same` cite; same_pointwise: what `==` on slices says
--   same, part (OneReply): two replies that a promise allows are equal
pub mod Slices
pub mod OneReply
