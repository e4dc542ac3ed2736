-- The proofs of the listing. Its theorems in the words of the rules are in the crate listing_laws.
-- Sections: laws of the input.
-- Decimal, Filling: laws of digits and of forms.
-- Writing: texts written one after the other.
-- LineLaws: laws of the lines. lines_first, lines_next, lines_12 and lines_end say what a record prints, object by
--   object: they name the crate reading, the numbers from 1 on, 12 and 11 (rules 10.6 to 10.8).
-- SmallNumbers, Longest: every printed number is below 100,000, and every text fits in 780,000 bytes (text_few).
-- Listed: from the texts of both sections to the promise of `list`.
-- OneReply: any two replies and contents of the buffer that a promise allows are equal.
pub mod Writing
pub mod Decimal
pub mod Filling
pub mod Sections
pub mod LineLaws
pub mod SmallNumbers
pub mod Longest
pub mod Listed
pub mod OneReply
