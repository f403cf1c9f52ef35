-- The laws of crate utf16. What a caller may cite is `pub mod`; functions' proofs have folders of
-- their own.
pub mod Writing
pub mod Forms
pub mod Takes
pub mod Unpaired
