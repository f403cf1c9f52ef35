-- The laws of crate demands. What a caller may cite is `pub mod`.
pub mod Accident
pub mod Demand1
pub mod Demand2
pub mod Demand3
pub mod Clipboard
pub mod Demand3Units
pub mod Calls
pub mod FromC
pub mod Cases
pub mod Sentences
