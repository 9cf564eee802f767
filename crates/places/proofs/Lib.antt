-- Laws of the nine places for hosts: their limits, the walk over clocks, numbers that are kept
-- beside them, and what opening sets.
pub mod PlaceLimits
pub mod Each
pub mod Walks
pub mod Mirrors
pub mod Opening
