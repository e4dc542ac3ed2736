-- Laws of the index, and one reply for each operation. The crates above cite these laws and do not unfold the
-- definitions. Theorems about the index are in the crate tlv_index_laws.
--
--   field_none, field_next, put_none, put_last (Fields): numbers of some bytes, byte by byte; field_two, field_three:
--     those of two and three bytes
--   one_end, counts_same, right_size and the others of each test, too_short (Files): the form of a file, test by test;
--     file_parts, counts_parts, end_parts: what holds of a file that has the form; checked_ok, checked_refused
--   entry_here, entry_next, entry_none (Entries): the entry used, entry by entry; value_inside, value_outside,
--     end_inside, end_outside: from the entry used on; entered: a value that is entered; checked_file, entries_of_file:
--     what holds of a file that is checked; indexed_*: a lookup through a file
--   stops_here, goes_on, item_ends (Walks): the walk of a record from a place on, by the object that is read there;
--     counted_few, counted_many: its count
--   over_at_apart, over_at_before (Sections): parts that do not overlap may be written in either order; no_entries,
--     put_none, put_next, end_put, file_put: the file written entry by entry; parts, length_file: the seven parts of a
--     file, and its length
--   counted_says, counted_24, built_long, built_many, built_few (Builds): what is built; no_room, has_room, too_long,
--     too_many, as_counted: the promise of `build_index` from its steps
pub mod Fields
pub mod Files
pub mod Entries
pub mod Walks
pub mod Sections
pub mod Builds
pub mod OneReply
