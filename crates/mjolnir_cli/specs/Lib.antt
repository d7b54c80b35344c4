pub mod Failures
pub mod Commands
pub mod Puts
pub mod Said
pub mod Listing
pub mod Ends
