-- How an exported function answers a host program, and what the numbers of a host mean.
pub mod Answers
pub mod Readings
pub mod Lookups
pub mod Builders
pub mod Lengths
pub mod Serialized
pub mod Commands
