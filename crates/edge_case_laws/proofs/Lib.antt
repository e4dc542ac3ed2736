-- The proof of the cases P1 to P12.
-- Table, cases_hold: the definitions answer as the table says, by computation.
--
-- Wrong definitions (entries of the table) that are refused (must-fail/table_entries.edit): p6_as_crate,
-- p11_le_not_counted.
pub mod Table
