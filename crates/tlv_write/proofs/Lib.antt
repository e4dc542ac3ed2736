-- Laws of BER objects written, and one reply for the operation. That what is written is read back is in the crate
-- tlv_laws.
--
--   tag_one, tag_two, tag_three (Shown): what is written for a tag, by its zero bytes in front (rule 7.1)
--   len_one, len_two, len_three (Shown): lengths in the shortest form (rule 7.2)
--   too_long, no_room, written (Objects): when an object is refused with 19 and 16, and what is written (rule 7.3)
--   one_byte_tag, two_byte_tag, three_byte_tag, every_tag_written (Objects): every tag is written, and no byte of it is
--     changed (rule 7.5)
pub mod Shown
pub mod Objects
pub mod OneReply
