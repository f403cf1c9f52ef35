-- The definitions of crate mending_units, lowest first: the mended text, and what the private
-- functions promise.
pub mod Mending
pub mod Inner
