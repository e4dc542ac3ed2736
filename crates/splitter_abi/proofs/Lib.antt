-- Laws of cutting a command for the host.
--   only_16 (OnlyRefusal16): once pieces are made, writing the next one is refused with 16 only.
--   not_made, out_short (LentSlices): what each case leaves in the lent slices.
--   gorvisclen_should_split, gorvisclen_new_non_extended, gorvisclen_write_next (OneReply): each promise allows one
--     reply and one content of the lent slices.
pub mod OnlyRefusal16
pub mod LentSlices
pub mod OneReply
