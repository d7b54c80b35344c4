pub mod Plain
mod ListLines
