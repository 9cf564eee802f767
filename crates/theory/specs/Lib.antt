-- Agreement of hosts as such. Demand 3 can be believed without it: it serves its proof.
pub mod Ballots
pub mod Model
pub mod Invariant
pub mod Agreement
