-- What cutting a command means: one step (Step), and all its pieces (Pieces).
pub mod Step
pub mod Pieces
