-- The laws of crate ranking. What a caller may cite is `pub mod`; functions' proofs have folders of
-- their own.
pub mod Orders
pub mod Items
pub mod Ranks
pub mod Steps
pub mod Fronts
pub mod Texts
pub mod Calls
