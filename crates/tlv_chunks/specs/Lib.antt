-- The definitions of a record that comes in chunks: Header, a header by one byte more; Run, a record byte by byte; Call,
-- what a chunk and the closing call come to.
pub mod Header
pub mod Run
pub mod Call
