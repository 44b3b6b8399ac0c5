-- WCC's meaning, in reading order; `Steps` is for the contracts of private functions only.
pub mod Component
pub mod Call
pub mod Meaning
pub mod Steps
