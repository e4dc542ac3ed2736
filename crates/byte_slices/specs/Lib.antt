-- What it means that two lists hold the same bytes, and the part of a list from a place with a length.
pub mod Slices
