-- The laws of crate joining. What a caller may cite is `pub mod`; functions' proofs have folders of
-- their own.
pub mod Roles
pub mod Pairs
pub mod Joins
pub mod Stepping
pub mod Calls
pub mod Joiners
