-- The definitions of the exported reassembler: Numbers, its states and answers as numbers.
pub mod Numbers
