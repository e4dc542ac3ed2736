-- The numbers of a lookup that a host program gets.
pub mod Place
