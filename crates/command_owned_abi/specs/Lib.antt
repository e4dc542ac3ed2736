-- What the exported functions leave in the slices that a host lends.
pub mod Copies
