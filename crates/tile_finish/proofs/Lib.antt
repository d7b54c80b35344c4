mod PlaceLemmas
mod FoundPlaces
mod SizeLemmas
mod LoopLemmas
mod Passes
mod PartLemmas
mod WholeTile
