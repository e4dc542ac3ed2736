-- Laws of AIDs, and one reply for each operation.
--
-- An AID by value stays valid (ValidAids):
--   from_name: what an operation returns as an AID is made of a name, also with a refusal
--   is_valid, valid_from_name: the AIDs that a name makes are exactly those that have what the Rust takes for granted;
--     each is the converse of the other, and so guards it
--   made_of, makes, name_kept: which names make an AID, and that its bytes are the name; guarded by valid_passes,
--     passing_valid
-- Which names are made and which are refused, in plain numbers (Making; rules 1.6 to 1.10 and 9.1): empty_name,
-- too_long, truncated_above, under_five_by_first, from_five_bytes, national_short, international_short, other_short.
-- Which names match (Prefix; rules 9.5 and 9.6): too_short, too_long, compared_with_front, empty_name_matches,
-- empty_name_too_short. `prefix` is by `same`, which the crate byte_slices guards.
-- The category is promised by number (category_as_number in specs).
pub mod Categories
pub mod Making
pub mod Spans
pub mod Prefix
pub mod OneReply
pub mod ValidAids
