-- What the host is given when it reads a command.
pub mod Numbers
