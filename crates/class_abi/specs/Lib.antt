-- The numbers of a class byte that a host program gets.
pub mod Numbers
