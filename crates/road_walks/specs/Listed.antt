-- The list of all directed pieces, and the local indexes that it gives.
use Rattle.std.specs.Prelude.{◌≡◌, ◌↔◌}
use Rattle.osm_model.specs.declared.extract.Extract.{Extract}
use Rattle.road_pieces.specs.DirectedPiece.{DirectedPiece}
use Rattle.road_pieces.specs.Among.{Among, Once}
use Rattle.road_pieces.specs.Pieces.{IsPiece, piece_start}
use Rattle.road_walks.specs.BaseEdges.{directed_pieces, local_index}

-- The law of the list: it has exactly the directed pieces, each once.
abbrev pub PiecesListed : Type 0
PiecesListed = (x : Extract) → ((p : DirectedPiece) → Among (directed_pieces x) p ↔ IsPiece x p) × Once (directed_pieces x)

-- The law of local indexes: no two directed pieces that start at one junction have the same one.
abbrev pub OwnIndexes : Type 0
OwnIndexes = (x : Extract) (p q : DirectedPiece) → IsPiece x p → IsPiece x q → piece_start x p ≡ piece_start x q → local_index x p ≡ local_index x q → p ≡ q
