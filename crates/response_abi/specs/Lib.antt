-- What a host program gets of a response and of its status.
pub mod Numbers
