-- The definitions of demand 3 (rules 11.4 and 11.5). Run: pieces sent through a reassembler. Jobs: lists of commands,
-- their pieces and the replies to them. Noise: pieces put in that are refused.
pub mod Run
pub mod Jobs
pub mod Noise
