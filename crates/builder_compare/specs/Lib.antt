-- What comparing a builder with a command means.
pub mod Compare
