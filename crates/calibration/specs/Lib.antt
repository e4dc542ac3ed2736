-- The calibration profile: section 19 of docs/RULES.md, and refusals 26 and 27.
pub mod Date
pub mod Profile
pub mod Lapsed
pub mod Shown
pub mod Put
