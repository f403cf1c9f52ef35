-- The definitions of crate normal, lowest first: the normal forms, the small database of section
-- 3.12, and document 01's repertoire.
pub mod Forms
pub mod Jamo
pub mod Repertoire
