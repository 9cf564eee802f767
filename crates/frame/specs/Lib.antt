-- Reading and writing; Claims and Examples say what is proved of them; Parts needs no belief.
pub mod Reading
pub mod Writing
pub mod Parts
pub mod Claims
pub mod Examples
