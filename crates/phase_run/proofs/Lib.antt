pub mod Looking
pub mod Working
pub mod Finishing
