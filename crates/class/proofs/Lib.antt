-- Laws of the class byte, and one reply for each operation.
--
-- Theorems (Readings), and what guards them:
--   channels_differ: on which classes the readings give different channels (rule 8.7); no hypothesis but that of
--     `Differ`; further_channels writes the values out, first_channel and no_channel those outside 40 to 7F
--   secure_messaging_differs: the same for secure messaging (rule 8.5); crate_says_standard, standard_says_none,
--     standard_says_standard, first_secure_messaging and unknown_secure_messaging write the values out
--   chained_range: setting the chaining bit keeps the range (rule 8.3); no hypothesis; guarded by chained_or (Bits) and
--     by is_first, is_reserved, is_further, is_proprietary (Ranges), whose bounds are numbers
--   chained_ef: EF with the bit set is FF, which is no class; guarded by chained_or, no_class and class_of (Bytes)
--   not_the_last_bit (Bits): "others follow" exactly if the bit is set; guarded by chaining_bit_and
-- Range, secure messaging and chain are promised by number (range_as_number, secure_messaging_as_number, chain_as_number in
-- specs).
pub mod Bits
pub mod Bytes
pub mod Ranges
pub mod Readings
pub mod OneReply
