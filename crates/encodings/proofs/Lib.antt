-- The laws of crate encodings, lowest first.
pub mod Pieces
pub mod Seams
pub mod Readings
pub mod Places
pub mod Damage
pub mod Rows
pub mod Taking
pub mod Texts
pub mod Reading
pub mod Ills
