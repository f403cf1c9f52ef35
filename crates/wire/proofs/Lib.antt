-- The laws of crate wire: filling a whole buffer, elements, numbers and units read and written, and
-- answers. Functions' proofs have folders of their own.
mod Filling
mod Elements
mod FourBytes
mod TwoBytes
mod Replies
