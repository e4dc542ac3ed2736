-- What building a command means: making a builder (Builder), the cases of a command (Cases), its bytes (Bytes), and the
-- same bytes by the sizes of their fields, as the code has them (Sizes).
pub mod Builder
pub mod Cases
pub mod Bytes
pub mod Sizes
