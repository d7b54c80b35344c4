pub mod RowWords
pub mod Found
pub mod RowSearch
pub mod Counted
pub mod WaysFound
pub mod NodeFound
pub mod RowTests
pub mod PiecesRise
