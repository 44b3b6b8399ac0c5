-- What the contracts of a load's storing half cite.
pub mod Held
pub mod Steps
pub mod Passes
pub mod Spread
pub mod Weigh
