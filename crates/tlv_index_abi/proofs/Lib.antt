-- Laws of the exported functions of an index.
--   gorvisclen_build_index, gorvisclen_check_index, gorvisclen_get_indexed (OneReply): each promise allows one reply
--     and one content of the lent slices
--   ForHosts: what a host sees of each, in plain words: the status, the bytes and the numbers, with a row that is long
--     enough (index_told, refusal_told; entries_told, form_told; value_told, halt_told, outside_told) and with one that
--     is too short (no_number; .._not_told)
pub mod OneReply
pub mod ForHosts
