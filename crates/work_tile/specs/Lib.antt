pub mod PackedRows
pub mod EdgeWords
pub mod NodeWords
pub mod WorkRows
pub mod Places
