-- Laws of frames: their answers and offsets, reading back what was written, sets of receivers, the
-- claims.
pub mod Answers
pub mod Finding
pub mod Walk
pub mod Round
pub mod Only
pub mod Sets
pub mod Offsets
pub mod Claims
pub mod Examples
pub mod Wrote
