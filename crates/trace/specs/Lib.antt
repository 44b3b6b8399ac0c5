-- What the calls for a C or Rust host promise, in reading order.
pub mod Code
pub mod Book
pub mod Load
pub mod Kernels
pub mod Verdict
pub mod Host
pub mod Steps
