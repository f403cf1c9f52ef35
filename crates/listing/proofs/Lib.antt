-- The laws of crate listing. What a caller may cite is `pub mod`; functions' proofs have folders of
-- their own.
pub mod Digits
mod HexWriting
mod LineWriting
pub mod LineBound
pub mod Bound
pub mod Turns
pub mod Calls
