-- Laws of the writers of lines.
pub mod Lines
