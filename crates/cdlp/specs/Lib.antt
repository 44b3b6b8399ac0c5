-- CDLP's meaning, in reading order; `Steps` is for the contracts of private functions only.
pub mod Label
pub mod Rounds
pub mod Call
pub mod Meaning
pub mod Steps
