-- The definitions of crate laws, lowest first: lists, ranges, strings, machines, writing, options.
-- They know nothing of Hangul nor of any encoding.
pub mod Lists
pub mod Ranges
pub mod Strings
pub mod Machines
pub mod Writing
pub mod Options
