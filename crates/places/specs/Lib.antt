-- The nine places for hosts; Parts needs no belief.
pub mod Places
pub mod Parts
