-- The laws of crate utf8. What a caller may cite is `pub mod`; functions' proofs have folders of
-- their own.
pub mod Rows
pub mod Forms
pub mod Writing
pub mod Bits
pub mod Round
