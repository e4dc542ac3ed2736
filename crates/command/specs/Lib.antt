-- What reading a command means: the lengths of a body (Body), a command and its data (Command), owned copies (Owned).
pub mod Body
pub mod Command
pub mod Owned
