-- The laws of crate fillers. What a caller may cite is `pub mod`; functions' proofs have folders of
-- their own.
pub mod Table
pub mod Letters
pub mod Fours
pub mod Turned
