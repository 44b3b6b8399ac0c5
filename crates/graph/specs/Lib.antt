-- The graph layer's meaning, in reading order.
pub mod Part
pub mod Arcs
pub mod Sound
pub mod Find
pub mod Steps
pub mod Walk
pub mod Weights
