-- What the contracts of a load cite, in reading order, and then what a load accepts and refuses.
pub mod Load
pub mod Good
pub mod Steps
