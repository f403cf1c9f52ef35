-- The definitions of crate ranking, lowest first: the items of a label, the rank of two labels, and
-- what the private functions promise.
pub mod Items
pub mod Ranking
pub mod Inner
