-- The definitions of crate utf8, lowest first: table 3-7, the encoding with reading and writing, the
-- contract of reading, and how many bytes a code point takes at most.
pub mod Table37
pub mod Utf8
pub mod Reading
pub mod Inner
pub mod Most
