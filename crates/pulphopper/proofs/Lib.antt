-- The laws of crate pulphopper. What a caller may cite is `pub mod`; functions' proofs have folders
-- of their own.
pub mod Replies
