-- Laws of the records and of the offsets of their faults, and the claims.
pub mod Laws
pub mod Offsets
pub mod Claims
