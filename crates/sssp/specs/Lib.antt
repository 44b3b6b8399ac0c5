-- The meaning of the SSSP kernel, in reading order; `Tree` and `Steps` are what its private functions do.
pub mod Distance
pub mod Call
pub mod Meaning
pub mod Tree
pub mod Steps
