pub mod Numbered
pub mod AsTold
pub mod Opening
pub mod HostFrames
