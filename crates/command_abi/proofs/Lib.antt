-- Laws of reading a command for the host.
--   gorvisclen_command (OneReply): the promise allows one reply and one content of the lent slice.
pub mod OneReply
