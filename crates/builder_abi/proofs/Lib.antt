-- Laws of builders for the host.
--   required_row, forced_row, equal_row (LentSlices): what the private functions wrote is what the promise says.
--   gorvisclen_required_len, gorvisclen_force_extended, gorvisclen_builder_eq, gorvisclen_serialize_into (OneReply):
--     each promise allows one reply and one content of the lent slices.
pub mod LentSlices
pub mod OneReply
