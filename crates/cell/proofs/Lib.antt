-- Laws of the cell: its hosts by number, its limits, its events, and that it stays within limits.
pub mod Hosts
pub mod CellLimits
pub mod Events
pub mod Looked
pub mod StaysWithin
pub mod HostChanges
pub mod Claims
