-- The meaning of the BFS kernel, in reading order; `Steps` is what its private functions do.
pub mod Depth
pub mod Call
pub mod Meaning
pub mod Steps
