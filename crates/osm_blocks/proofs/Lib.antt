pub mod Rising
pub mod Twice
pub mod Sorting
pub mod Scans
pub mod Limits
pub mod Shown
pub mod Prefix
pub mod Readings
pub mod Whole
pub mod OfBytes
pub mod WithinLimits
pub mod ContentLaw
mod FaultLinesKept
pub mod RefusalLaw
pub mod FileAnswers
