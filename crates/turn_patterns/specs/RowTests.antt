-- The tests of a search for the patterns of a turn restriction with via ways.
use Rattle.std.specs.Prelude.{◌&&◌, ℕ, zero, suc, ℤ, Bool, false, not, List, [], ◌∷◌, length, nat_eq, if◌then◌else◌}
use Rattle.std.specs.List.{list_any}
use Rattle.std.specs.Ordering.{int_eq}
use Rattle.osm_model.specs.declared.extract.Extract.{Extract}
use Rattle.road_pieces.specs.DirectedPiece.{DirectedPiece}
use Rattle.road_pieces.specs.Pieces.{piece_end}
use Rattle.road_walks.specs.BaseEdges.{base_edges}
use Rattle.road_walks.specs.PieceMatches.{PieceGoesOn}
use Rattle.road_walks.specs.Readings.{Joins}
use Rattle.turn_patterns.specs.RowWords.{EndsPattern}
use Rattle.pattern_search.specs.Deciding.{TestsDecide}
use Rattle.pattern_search.specs.ViaSets.{ViaTests}

-- the way stands in a list; it stands there at the place i
abbrev pub is_among : List ℤ → ℤ → Bool
is_among ways way = list_any (λ w. int_eq w way) ways

abbrev pub stands_there : List ℤ → ℕ → ℤ → Bool
stands_there [] i way = false
stands_there (w ∷ ws) zero way = int_eq way w
stands_there (w ∷ ws) (suc i) way = stands_there ws i way

-- a piece is of the way of a member, which are counted from 1
abbrev pub is_of_member : List ℤ → DirectedPiece → ℕ → Bool
is_of_member vias q zero = false
is_of_member vias q (suc i) = stands_there vias i q.way

-- q goes on where p ends, in its run and direction
abbrev pub goes_on_from : DirectedPiece → DirectedPiece → Bool
goes_on_from p q =
    int_eq p.way q.way && (nat_eq p.run q.run && (if p.forward then q.forward && nat_eq q.from p.to else not q.forward && nat_eq p.from q.to))

-- the pieces that may come after p: the base edges where it ends
abbrev pub pieces_after : Extract → DirectedPiece → List DirectedPiece
pieces_after x p = base_edges x (piece_end x p)

-- whether a pattern may end with q after p
abbrev pub may_end_with : Extract → Bool → List ℤ → DirectedPiece → DirectedPiece → Bool
may_end_with x only tos p q =
    if only then not (is_among tos q.way) && list_any (λ o. is_among tos o.way) (pieces_after x p) else is_among tos q.way

abbrev pub row_tests : Extract → Bool → List ℤ → List ℤ → (ℕ → DirectedPiece → Bool) → ViaTests DirectedPiece
row_tests x only tos vias can = record {
  count = length vias;
  letters = pieces_after x;
  last = may_end_with x only tos;
  goes_on = goes_on_from;
  of = is_of_member vias;
  can = can;
}

-- The law of these tests: they decide what the restriction asks.
abbrev pub RowTestsDecide : Type 0
RowTestsDecide =
    (x : Extract) (only : Bool) (tos vias : List ℤ) (none : ℤ) (can : ℕ → DirectedPiece → Bool) → TestsDecide (Joins x) PieceGoesOn (EndsPattern x only tos) (λ p. p.way) vias none (row_tests x only tos vias can)
