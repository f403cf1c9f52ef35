-- The laws of crate letters. What a caller may cite is `pub mod`; functions' proofs have folders of
-- their own.
pub mod Sorts
pub mod Steps
pub mod FullParts
pub mod Chapter3
pub mod Answers
pub mod Counts
