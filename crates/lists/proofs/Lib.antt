-- Laws of reading the two lists, then what is accepted and what is refused.
pub mod Handed
pub mod Lookups
pub mod Reading
pub mod Runs
pub mod Gathers
pub mod Fronts
pub mod Accepts
pub mod Refused
