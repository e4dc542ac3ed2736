-- Laws of building a command. The splitter uses them, and unfolds no definition of this crate.
--   length_command, required_is (Lengths): a command is four plus the bytes of Lc, data and Le long.
--   lengths_few (Lengths): Lc and Le have at most three bytes each, and five together.
--   data_too_long, buffer_too_short, fits (Fitting): what writing a command replies.
--   too_many, few_enough, value_few, refusal_many, new_few (Data): 13 is replied exactly for data above 65,535 bytes.
--   lc_sized, le_sized, laid_out_is (Cases): the cases of ISO/IEC 7816-3 and the sizes that the code computes give the
--     same bytes. So the code goes by sizes, and the promise by cases.
--   new, force_extended, lowered, required_len, serialize_into (OneReply): each promise allows one reply.
pub mod Data
pub mod Cases
pub mod Lengths
pub mod Fitting
pub mod OneReply
