-- Laws of the listing: its script, its counts, and how it ends.
pub mod Counting
pub mod Ending
pub mod Records
pub mod Claims
