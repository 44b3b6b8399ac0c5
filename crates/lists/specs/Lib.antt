-- What the contracts of the two lists cite, in reading order, and the files that are accepted.
pub mod Files
pub mod Good
pub mod Calls
pub mod Steps
