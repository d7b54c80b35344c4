pub mod WordBytes
pub mod Reads
pub mod Sections
pub mod Answers
pub mod FirstFailing
