pub mod PatternRows
pub mod Codes
pub mod Locals
pub mod KeptPieces
