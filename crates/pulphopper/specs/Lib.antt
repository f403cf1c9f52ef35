-- The definitions of crate pulphopper, lowest first: a refusal as C is told of it, and what C is
-- told of each call.
pub mod Refusals
pub mod Replies
