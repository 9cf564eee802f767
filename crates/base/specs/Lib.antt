-- Refusals by number, and lists of tests. A reader of any other definition needs these first.
-- Claims has the words for what is claimed of a refusal's place.
pub mod Refusals
pub mod Lists
pub mod Claims
pub mod Answers
