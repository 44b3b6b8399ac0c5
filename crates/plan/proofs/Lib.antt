-- Laws of words and lines of a sheet; `Places` is for callers.
pub mod Words
pub mod Lines
pub mod Jobs
pub mod Checks
pub mod Places
pub mod Meaning
pub mod Examples
