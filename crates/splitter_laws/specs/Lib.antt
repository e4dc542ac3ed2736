-- What theorems about cutting say: what a step may reply (Cut), what the parts are (Parts), and what is answered when
-- pieces are asked for again and again (Asked).
pub mod Cut
pub mod Parts
pub mod Asked
