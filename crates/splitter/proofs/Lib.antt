-- Laws of cutting a command. They rest on the promise of the builder, that is on its length and bytes, and on its laws
-- (`required_is`, `value_few`, `refusal_many`, `few_enough`, `too_many`, `lengths_few`), and unfold none of its
-- definitions (rule 12.10).
--   room_is, room_not_zero (Steps): the room, and that it is not empty for a buffer of 10 bytes or more.
--   step_long, step_small, step_whole, step_no_room, step_split (Steps): what one step replies, case by case.
--   never_refused (Steps): with a buffer of 10 bytes and at most 65,535 data bytes no step is refused.
--   step_fewer, left_inside, next_inside (Inside): a part is shorter than the data left, and a piece lies in the data.
--   should_split, new_non_extended, next, write_next (OneReply): each promise allows one reply.
pub mod Steps
pub mod Inside
pub mod OneReply
