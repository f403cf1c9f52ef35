-- The definitions of crate mending, lowest first: the mended text, its first character, and what
-- the private functions promise.
pub mod Mending
pub mod Characters
pub mod Inner
