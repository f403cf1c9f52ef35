-- The laws of crate clusters. What a caller may cite is `pub mod`; functions' proofs have folders
-- of their own.
pub mod Packing
pub mod Codes
pub mod Rule
pub mod Rows
pub mod SimpleForm
pub mod Clustering
pub mod GatheredForm
pub mod Others
pub mod Gathering
pub mod Writing
pub mod Loops
