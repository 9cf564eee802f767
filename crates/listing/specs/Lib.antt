-- The listing of a run file, as lines and as bytes; Claims says what is proved of it; Parts needs
-- no belief.
pub mod Listing
pub mod Parts
pub mod Claims
