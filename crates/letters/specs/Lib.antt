-- The definitions of crate letters, lowest first: the sorts, the syllables in document 01's terms
-- and in the Standard's, and the answers.
pub mod Sorts
pub mod Syllables
pub mod Chapter3
pub mod Answers
