-- The laws of crate mending, lowest first: Characters to FastPaths hold of any encoding form, the
-- others are UTF-8's own. What a caller may cite is `pub mod`; functions' proofs have folders of
-- their own.
pub mod Characters
pub mod Turns
pub mod Damage
pub mod Round
pub mod Same
pub mod Across
pub mod Bound
pub mod FastPaths
pub mod Passes
pub mod Spelling
pub mod Alone
