-- Laws that the proofs of the exported functions cite, and one reply for each operation.
--
--   refusal_written, too_short_written, row_written (AnswerLaws): the three ways to answer: a refusal, 16, numbers
--   row_too_short, row_told (AnswerLaws): the two ways to tell a row, whatever the status is; row_fits,
--     row_does_not_fit: what a promised row says
--   One, one, OneRow, one_row, OneCopy, one_copy, one_serialized (OneReply): one reply and one content of the lent
--     slices, for every function that writes numbers, tells a row, copies bytes or writes a command
--   few (BuilderLaws): a builder made by numbers has at most 65,535 data bytes
--   not_made, out_short, written, write_refused, done (SerializedLaws): what each case of writing a command leaves in
--     the lent slices
pub mod AnswerLaws
pub mod BuilderLaws
pub mod SerializedLaws
pub mod OneReply
