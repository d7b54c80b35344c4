pub mod AtCodes
pub mod CodePlaces
