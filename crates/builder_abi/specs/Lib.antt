-- What the host is given of a builder (Numbers), and the steps between, for the private functions (Steps).
pub mod Numbers
pub mod Steps
