-- The definitions of the exported collection: Numbers, its states and answers as numbers.
pub mod Numbers
