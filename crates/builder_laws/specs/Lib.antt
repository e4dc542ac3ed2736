-- What theorems about building say: what a command is read back as (Read), and what `new` makes (Made).
pub mod Read
pub mod Made
