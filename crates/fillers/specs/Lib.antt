-- The definitions of crate fillers, lowest first: the groups of four that a filler begins, and what
-- the private functions promise.
pub mod Groups
pub mod Inner
