-- Laws of the numbers that a host is given: they can be taken apart again, and each call's answer fits one.
pub mod Codes
pub mod Books
pub mod Loads
pub mod Stored
pub mod Runs
pub mod Claims
pub mod Hosts
