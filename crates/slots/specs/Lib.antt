-- The messages under way; Claims says what is proved of the walk that places.
pub mod Slots
pub mod Claims
