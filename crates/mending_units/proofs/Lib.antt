-- The laws of crate mending_units. What a caller may cite is `pub mod`; functions' proofs have
-- folders of their own.
pub mod Units
pub mod Bound
pub mod Passes
pub mod Found
