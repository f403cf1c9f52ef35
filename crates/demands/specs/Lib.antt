-- The statements of crate demands: the accident, the three demands, the clipboard's units with
-- demand 3 for them, demand 1 at each call, the demands from C, document 01's twelve cases and its
-- other sentences: statements in the order in which the customer speaks.
pub mod Accident
pub mod Demand1
pub mod Demand2
pub mod Demand3
pub mod Clipboard
pub mod Demand3Units
pub mod Calls
pub mod FromC
pub mod Cases
pub mod Sentences
