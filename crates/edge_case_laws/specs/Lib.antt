-- The table of the cases P1 to P12, and the statement that the definitions answer as it says.
pub mod Table
