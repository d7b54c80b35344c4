mod KeyOrder
mod PieceEntries
mod EdgeFacts
mod LimitFacts
mod TileFacts
mod KeptLaw
mod SpelledNames
