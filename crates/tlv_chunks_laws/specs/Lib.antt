-- The definitions for the theorems about a record in chunks: Session, chunks and the answers to them; Whole, what a
-- whole record tells; Held, what a state says of the bytes so far.
pub mod Session
pub mod Whole
pub mod Held
