-- The laws of crate normal. What a caller may cite is `pub mod`.
pub mod Vectors
pub mod Ordering
pub mod Composing
pub mod Agreement
pub mod Steps
pub mod Jamo
pub mod Conjoining
pub mod Composites
pub mod Repertoire
