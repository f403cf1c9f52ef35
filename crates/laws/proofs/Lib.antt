-- The laws of crate laws. What a caller may cite is `pub mod`.
pub mod Bools
pub mod Lists
pub mod Ranges
pub mod Tables
pub mod Strings
pub mod Machines
pub mod Filling
