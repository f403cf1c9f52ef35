-- The definitions of crate names, lowest first: the strings and the names, the Standard's rule NR1,
-- the contracts of naming and reading, and what the private functions promise.
pub mod Names
pub mod NR1
pub mod Naming
pub mod Inner
