-- The order in which directed pieces are listed.
use Rattle.std.specs.Prelude.{◌↔◌, ℤ, List, filter}
use Rattle.std.specs.List.{Contains}
use Rattle.osm_model.specs.declared.extract.Extract.{Extract}
use Rattle.road_pieces.specs.DirectedPiece.{DirectedPiece}
use Rattle.road_pieces.specs.Pieces.{IsPiece}
use Rattle.road_walks.specs.BaseEdges.{directed_pieces}
use Rattle.pattern_search.specs.Words.{Includes, Rising}
use Rattle.turn_patterns.specs.Found.{ComesBefore}
use Rattle.turn_patterns.specs.RowTests.{is_among, pieces_after}

-- The law of their order: all directed pieces, and those that may come after one, are listed in order.
abbrev pub PiecesRise : Type 0
PiecesRise = (x : Extract) → Rising ComesBefore (directed_pieces x) × ((p : DirectedPiece) → Rising ComesBefore (pieces_after x p))

-- the pieces of these ways, as the from ways of a restriction
abbrev pub first_pieces : Extract → List ℤ → List DirectedPiece
first_pieces x from = filter (λ p. is_among from p.way) (directed_pieces x)

-- The law of first pieces: these are they, in order.
abbrev pub FirstsTellPieces : Type 0
FirstsTellPieces =
    (x : Extract) (from : List ℤ) → ((p : DirectedPiece) → Includes (first_pieces x from) p ↔ (IsPiece x p × Contains from p.way)) × Rising ComesBefore (first_pieces x from)
