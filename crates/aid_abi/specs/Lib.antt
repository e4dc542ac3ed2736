-- The numbers and parts of an AID that a host program gets.
pub mod Numbers
