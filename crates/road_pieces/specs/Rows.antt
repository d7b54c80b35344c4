-- The junctions and pieces of an extract as lists.
use Rattle.std.specs.Prelude.{ℕ, ◌+◌, ℤ, pos, Bool, List, [], ◌∷◌, length, map, filter, sum_by, count_by, not, Option, Some, nat_lt, find, option_map, if◌then◌else◌, slice_range}
use Rattle.std.specs.List.{flat_map, enumerate_from, slice_index_or}
use Rattle.fixed_geo.specs.declared.points.Point.{Point}
use Rattle.fixed_geo.specs.Length.{length_cm}
use Rattle.osm_model.specs.declared.nodes.OsmNode.{OsmNode}
use Rattle.osm_model.specs.declared.ways.OsmWay.{OsmWay}
use Rattle.osm_model.specs.declared.extract.Extract.{Extract}
use Rattle.road_pieces.specs.declared.rows.Junction.{Junction}
use Rattle.road_pieces.specs.declared.rows.Piece.{Piece}
use Rattle.road_pieces.specs.declared.faults.CutFault.{CutFault}
use Rattle.road_pieces.specs.declared.faults.CutFault.TheVariants.{TooManyPieces, EdgeTooLong}
use Rattle.road_pieces.specs.declared.limits.TheConstants.{MOST_PIECES, LONGEST_PIECE_CM}
use Rattle.road_pieces.specs.Rules.{is_routable, is_barrier, class_of, forward_access, backward_access, node_access, names_of}
use Rattle.road_pieces.specs.Runs.{has_node, way_runs, is_junction}
use Rattle.road_pieces.specs.Lengths.{point_of, point}

-- the junction of a node
abbrev pub junction_row : OsmNode → Junction
junction_row n = record { osm = n.id; at = point_of n; access = node_access n.tags; barrier = is_barrier n.tags }

-- the junctions of an extract, in order of id
abbrev pub junction_rows : Extract → List Junction
junction_rows x = map junction_row (filter (λ n. is_junction x n.id) x.nodes)

-- the places of a list at which the test holds, where the first one is place k
abbrev pub stops : {A : Type 0} → (A → Bool) → ℕ → List A → List ℕ
stops test k [] = []
stops test k (n ∷ ns) = if test n then k ∷ stops test (k + 1) ns else stops test (k + 1) ns

-- each two successive places of a list of places
abbrev pub spans_from : ℕ → List ℕ → List (ℕ × ℕ)
spans_from i [] = []
spans_from i (j ∷ js) = (i, j) ∷ spans_from j js

abbrev pub spans : List ℕ → List (ℕ × ℕ)
spans [] = []
spans (i ∷ is) = spans_from i is

-- the length of a course: the sum of the lengths of its segments
abbrev pub course_cm_from : Point → List Point → ℕ
course_cm_from p [] = 0
course_cm_from p (q ∷ qs) = length_cm p q + course_cm_from q qs

abbrev pub course_cm : List Point → ℕ
course_cm [] = 0
course_cm (p ∷ ps) = course_cm_from p ps

-- the course of a run from one place to another
abbrev pub course : List OsmNode → List ℤ → ℕ → ℕ → List Point
course nodes run from to = map (point nodes) (slice_range run from (to + 1))

-- the piece with that number of a run, between two places
abbrev pub piece_row : Extract → OsmWay → ℕ → List ℤ → ℕ → ℕ → ℕ → Piece
piece_row x way number run piece from to = record {
  key = record { way = way.id; run = number; piece = piece };
  start = slice_index_or run from (pos 0);
  end = slice_index_or run to (pos 0);
  shape = course x.nodes run from to;
  cm = course_cm (course x.nodes run from to);
  class = class_of way.tags;
  forward = forward_access way.tags;
  backward = backward_access way.tags;
  names = names_of way.tags;
}

-- the pieces of a run: between each two successive places with junctions, numbered from 0
abbrev pub run_rows : Extract → OsmWay → ℕ → List ℤ → List Piece
run_rows x way number run = map (λ (piece, (from, to)). piece_row x way number run piece from to) (enumerate_from 0 (spans (stops (is_junction x) 0 run)))

-- the pieces of a way, run by run
abbrev pub way_rows : Extract → OsmWay → List Piece
way_rows x way = flat_map (λ (number, run). run_rows x way number run) (enumerate_from 0 (way_runs x.nodes way))

-- the pieces of an extract, in order of key
abbrev pub piece_rows : Extract → List Piece
piece_rows x = flat_map (way_rows x) x.ways

-- how many ways are routable
abbrev pub routable_ways : Extract → ℕ
routable_ways x = count_by (λ way. is_routable way.tags) x.ways

-- at how many places of the refs of routable ways the node isn't there
abbrev pub missing_refs : Extract → ℕ
missing_refs x = sum_by (λ way. if is_routable way.tags then count_by (λ id. not (has_node x.nodes id)) way.refs else 0) x.ways

-- why the roads with these pieces are refused: too many pieces, or else the first one that is too long
abbrev pub too_long : Piece → CutFault
too_long p = EdgeTooLong p.key.way p.key.run p.key.piece p.cm

abbrev pub refusal : List Piece → Option CutFault
refusal pieces = if nat_lt MOST_PIECES (length pieces) then Some (TooManyPieces (length pieces)) else option_map too_long (find (λ p. nat_lt LONGEST_PIECE_CM p.cm) pieces)
