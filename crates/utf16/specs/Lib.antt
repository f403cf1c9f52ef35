-- The definitions of crate utf16: UTF-16 as an encoding form, with reading and writing; how many
-- units a code point takes at most; and what the functions of a surrogate pair ask (Inner).
pub mod Utf16
pub mod Most
pub mod Inner
