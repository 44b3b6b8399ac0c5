-- Laws of stored arcs.
pub mod Arcs
pub mod Passes
pub mod Edges
pub mod Running
pub mod Order
pub mod Built
pub mod Meaning
pub mod Fits
pub mod Weights
pub mod Weighing
pub mod Weighed
