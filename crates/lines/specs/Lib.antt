-- The lines of a listing, and their text; Parts, names as bytes that are lent, needs no belief.
pub mod Lines
pub mod Parts
