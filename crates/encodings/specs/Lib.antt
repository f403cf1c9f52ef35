-- The definitions of crate encodings, lowest first: the pieces of a text and the Standard's reading
-- of it; damage and its places; an encoding by rows; encoding forms, and what is read and written
-- in any of them; the contract of a call that reads; and what functions of a row ask (Inner).
pub mod Pieces
pub mod Readings
pub mod Damage
pub mod Places
pub mod Rows
pub mod Forms
pub mod Reading
pub mod Inner
