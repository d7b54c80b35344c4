pub mod Lifted
pub mod Spots
