-- Laws of a run of events, and of an event.
pub mod Acting
pub mod Playing
pub mod Turn
