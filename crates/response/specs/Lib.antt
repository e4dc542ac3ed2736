-- What a response says. Response: its data and its status, and its data appended to a room. Status: its word and its
-- class. Counts: how many statuses have a class. Words: the 21 listed words and their names.
pub mod Status
pub mod Counts
pub mod Words
pub mod Response
