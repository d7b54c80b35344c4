mod Packed
mod Bools
mod EdgeBack
mod NodeBack
mod NodesOver
mod TilePut
mod Found
mod EdgesOver
