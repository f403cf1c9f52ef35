-- The definitions of crate answers, lowest first: the checks, the verdicts, and the code's answers
-- read as verdicts.
pub mod Checks
pub mod Verdicts
pub mod Answers
