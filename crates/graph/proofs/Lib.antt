-- Laws of edges and counts, of parts, of the bisection and of sound graphs, then the laws behind the soundness check,
-- by search and by a walk, those of weights,
-- and graphs computed.
pub mod Arcs
pub mod Parts
pub mod Finds
pub mod Sounds
pub mod Steps
pub mod Walks
pub mod Weighings
pub mod Examples
pub mod Runs
