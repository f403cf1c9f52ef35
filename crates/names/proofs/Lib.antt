-- The laws of crate names. What a caller may cite is `pub mod`; functions' proofs have folders of
-- their own.
pub mod Rows
pub mod Writing
pub mod Lengths
pub mod Unique
pub mod NR1
pub mod Search
pub mod Found
