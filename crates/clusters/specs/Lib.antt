-- The definitions of crate clusters, lowest first: the table of clusters and its rule, simple form,
-- the table as the code has it, gathered form, and what the private functions promise.
pub mod Table
pub mod Simple
pub mod Rows
pub mod Gathering
pub mod Inner
