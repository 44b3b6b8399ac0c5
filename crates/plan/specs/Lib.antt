-- The meaning of a sheet, in reading order; then what private functions promise.
pub mod Lines
pub mod Jobs
pub mod Sheet
pub mod Form
pub mod Steps
