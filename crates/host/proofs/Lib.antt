-- Laws of a host's step: its limits, refusals and outcomes, what it sends, and naming by majority.
pub mod HostLimits
pub mod Writable
pub mod Refusals
pub mod Outcomes
pub mod Within
pub mod Majority
pub mod Claims
