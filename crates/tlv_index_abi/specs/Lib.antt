-- What the exported functions of an index tell a host program.
pub mod Told
