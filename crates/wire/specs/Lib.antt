-- The definitions of crate wire: numbers on the wire, and the numbers of a call and of an answer.
pub mod Numbers
pub mod Messages
