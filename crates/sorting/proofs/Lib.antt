-- The laws of crate sorting. What a caller may cite is `pub mod`; functions' proofs have folders of
-- their own.
pub mod Standing
pub mod Sorted
pub mod Placing
pub mod Ordering
pub mod Decimals
pub mod Backing
pub mod NumberLines
pub mod Printed
pub mod Bound
