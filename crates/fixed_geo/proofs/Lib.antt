pub mod LengthLaws
pub mod Newton
pub mod Quotient
pub mod RootLaws
