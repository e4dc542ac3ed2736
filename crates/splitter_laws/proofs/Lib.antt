-- Theorems about cutting a command, in all modes unless said, for buffers from 10 bytes and at most 65,535 data bytes.
-- They unfold no definition of the builder.
--   never_refused (Cut, from the crate splitter): no step is refused.
--   parts_is (Cut): the parts of a command, step by step.
--   room_261 (Cut): in short mode, over 255 data bytes, the default buffer has room for 254 without Le, 252 with Le.
--   cut (Cut): what holds of a command that fits, and of a split if it holds of the rest, holds of every cut.
--   fits (Parts): every piece is at most as long as the buffer.
--   joined (Parts): the data of the pieces joined are the data.
--   all_but_last (Parts): all pieces but the last have bit 0x10 set, Le 0 and at least a byte of data; the last one has
--     class and expected length of the command.
--   unsplit (Parts): a command that fits is not split, unless it has more than 255 data bytes in short mode.
--   ef_pieces (Parts): all pieces of class 0xEF but the last are of class 0xFF, which the parser refuses.
--   pieces_answers, pieces_collected (Asked): asked for again and again, the pieces come in order, none is refused, and
--     then none is left for ever.
--   pieces_ff, pieces_long, pieces_buffer, pieces_is (Asked): when pieces are made, and when that is refused.
--   piece_written, piece_in_buffer (Written): a piece that fits the buffer is written at its beginning.
-- What guards them: the hypotheses are numbers (a buffer of 10 bytes, 65,535 data bytes) and replies of the definitions
-- that the promises name. `fits` and `ef_pieces` are said with `Every`. `answers` and `one_by_one` are on the two sides
-- of `pieces_answers`, so neither can be wrong alone. By `none_left_only` a refusal does not count as "none left".
-- Tests of these statements, which change a definition: `last_not_lowered`, `none_left_as_empty_piece`.
pub mod Cut
pub mod Parts
pub mod Asked
pub mod Written
