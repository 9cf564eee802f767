-- Laws of tests, answers and their numbers, of the places of refusals, of runs of stores, and of
-- lists.
pub mod Tests
pub mod Places
pub mod Stores
pub mod Lists
pub mod Answers
