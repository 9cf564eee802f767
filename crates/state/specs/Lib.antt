-- What a host keeps of a sheet: its limits, the blank one, and what time leaves of it.
pub mod StateLimits
pub mod Blank
pub mod Ageing
pub mod Releasing
