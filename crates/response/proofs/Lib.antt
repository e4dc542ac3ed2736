-- Laws of responses, and one reply for each operation.
--
-- Theorems, and what guards them:
--   split_joined (Splitting): data, SW1 and SW2 joined are the response; too_short and long_enough: 22 exactly under
--     two bytes; data_length, no_data: how many bytes of data there are
--   append_22, append_23, append_ok (Splitting): when an append is refused, by lengths; they leave no case
--   refused_kept, appended (Splitting): what an append leaves in the room
--   normal_9000, normal_61, warning_62_63, execution_64_66, checking_67_6f, unknown_90, unknown_to_60, unknown_from_70
--     (Classes): the class of each status, in numbers; no status is left over
--   five_classes, normal_count, warning_count, execution_error_count, checking_error_count, unknown_count (Counts):
--     every status has one of five classes, and how many have each, by `total`, a plain sum
--   table_length, words_distinct, names_distinct (Table): the table has 21 entries, and passes the one test `distinct`;
--     same_place: what that test says
--   word_found, not_listed, found_there (Table): the lookup gives k exactly for the word of entry k, and none for any
--     other
--   listed_checking, name_not_empty, name_once (Table): every listed word is a checking error and has a name of its own
-- Tests of these statements, which change a definition (must-fail/statements.edit): room_changed_before_23,
-- append_23_before_22, status_bytes_exchanged, checking_errors_to_6e, word_listed_twice.
pub mod Splitting
pub mod Classes
pub mod Counts
pub mod Table
pub mod Names
pub mod OneReply
