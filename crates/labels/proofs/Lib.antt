-- The laws of crate labels. What a caller may cite is `pub mod`; functions' proofs have folders of
-- their own.
pub mod Numbers
pub mod Records
pub mod Places
pub mod Layouts
pub mod Images
pub mod Entries
pub mod Judging
pub mod Finding
pub mod Lookups
pub mod Storing
pub mod Calls
pub mod Lowest
