-- What the desk program prints, in reading order; then what private functions ask for.
pub mod Jobs
pub mod Desk
pub mod Steps
