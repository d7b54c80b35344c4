pub mod LookUps
pub mod Records
pub mod Limits
pub mod Progress
