-- The definitions of crate sorting, lowest first: the order of an image's records, how it is
-- printed, and what the private functions promise.
pub mod Sorting
pub mod Decimals
pub mod Printing
pub mod Inner
