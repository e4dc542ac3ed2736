-- One reply of the exported lookup.
pub mod OneReply
