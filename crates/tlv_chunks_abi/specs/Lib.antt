-- The definitions of the exported walk of chunks: Numbers, its states and replies as numbers.
pub mod Numbers
