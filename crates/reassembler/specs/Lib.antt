-- The definitions of the reassembler: Join, what each piece comes to.
pub mod Join
