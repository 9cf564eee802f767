-- The cell and its events, in reading order; Claims says what is proved of one event.
pub mod CellLimits
pub mod Answered
pub mod Events
pub mod Runs
pub mod Claims
