-- What a host program gets of a calibration record.
pub mod Numbers
