-- The definitions of crate listing, lowest first: a code in hex, the line of a character, the list
-- of a text's characters.
pub mod Hex
pub mod Line
pub mod Listing
