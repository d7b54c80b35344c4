pub mod Inner
pub mod PartsSeat
pub mod Tries
