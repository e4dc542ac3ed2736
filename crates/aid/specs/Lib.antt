-- What an AID is and what it answers: rules 9.1 to 9.6, and refusals 6 to 10.
pub mod Category
pub mod Making
pub mod Parts
pub mod Matches
