-- The definitions of crate labels, lowest first: a record of the label file, an image of it, what
-- the calls check and answer, and what the private functions promise.
pub mod Records
pub mod Images
pub mod Inner
