-- Laws of what is printed: a job, all jobs, a whole sheet.
pub mod Ran
pub mod Whole
pub mod Lengths
pub mod Room
pub mod Meaning
pub mod Examples
