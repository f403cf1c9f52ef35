-- The laws of crate answers. What a caller may cite is `pub mod`; functions' proofs have folders of
-- their own.
pub mod Orders
pub mod Checks
pub mod Verdicts
pub mod Answers
