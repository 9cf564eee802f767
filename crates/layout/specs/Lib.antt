-- Where the fields of a frame stand; Parts needs no belief.
pub mod Layout
pub mod Parts
