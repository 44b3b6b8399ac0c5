-- P1 to P12, and one outcome for every public call.
pub mod Checked
pub mod Answers
pub mod Outcomes
