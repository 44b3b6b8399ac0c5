-- What private functions ask for and promise.
pub mod Whole
