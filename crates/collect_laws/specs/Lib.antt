-- What theorems about collecting say. Run: responses given to a collection, one after the other. Accepted: the same in
-- plain words, without steps. Sends: what is to be sent after each status. Noise: responses put in that are refused.
-- ReadBack: what the sent bytes are read as.
pub mod Run
pub mod Accepted
pub mod Sends
pub mod Noise
pub mod ReadBack
