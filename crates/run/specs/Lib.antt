-- What a run of events leaves, and the parts of an event. Needs no belief.
pub mod Running
pub mod Parts
