-- The records of a run file; Claims says what is proved of them; Parts needs no belief.
pub mod Read
pub mod Record
pub mod Parts
pub mod Claims
