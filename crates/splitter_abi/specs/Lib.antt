-- What the host is given when it cuts a command.
pub mod Numbers
