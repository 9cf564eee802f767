-- Messages and their numbers, and what is refused in one.
pub mod Message
pub mod Faults
pub mod Leases
