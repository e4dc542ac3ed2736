-- Laws of copies for the host.
--   owned_short, owned_refused, owned_row, extends (LentSlices): what each case leaves in the lent slices.
--   gorvisclen_command_data, gorvisclen_command_owned, gorvisclen_command_extend (OneReply): each promise allows one
--     reply and one content of the lent slices.
pub mod LentSlices
pub mod OneReply
