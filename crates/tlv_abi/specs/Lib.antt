-- The numbers of BER objects that a host program gets, and what the exported functions leave in the lent slices.
pub mod Numbers
pub mod Written
