-- How BER objects are written: rules 7.1 to 7.5, and refusals 16 and 19.
pub mod Written
