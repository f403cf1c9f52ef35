-- The definitions of crate joining, lowest first: which two neighbours join, joining, grouping, and
-- what a step answers.
pub mod Roles
pub mod Joining
pub mod Grouping
pub mod Answers
