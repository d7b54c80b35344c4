-- Runs of ways, and junctions.
use Rattle.std.specs.Prelude.{ℕ, ℤ, Bool, false, ◌||◌, ◌&&◌, nat_le, List, [], ◌∷◌, length, map, filter, find, sum_by, count_by, if◌then◌else◌}
use Rattle.std.specs.List.{list_any, flat_map, dedup, slice_index_or}
use Rattle.std.specs.Option.{option_map_or}
use Rattle.std.specs.Ordering.{int_eq}
use Rattle.osm_model.specs.declared.nodes.OsmNode.{OsmNode}
use Rattle.osm_model.specs.declared.ways.OsmWay.{OsmWay}
use Rattle.osm_model.specs.declared.extract.Extract.{Extract}
use Rattle.road_pieces.specs.Rules.{is_routable, is_barrier}

-- there is a node of that id
abbrev pub has_node : List OsmNode → ℤ → Bool
has_node nodes id = list_any (λ node. int_eq node.id id) nodes

-- a list whose first stretch has one id more in front
abbrev pub lengthen : ℤ → List (List ℤ) → List (List ℤ)
lengthen id [] = (id ∷ []) ∷ []
lengthen id (stretch ∷ rest) = (id ∷ stretch) ∷ rest

-- the longest stretches of ids that pass the test: the parts between those that don't
abbrev pub stretches : (ℤ → Bool) → List ℤ → List (List ℤ)
stretches test [] = [] ∷ []
stretches test (id ∷ ids) = if test id then lengthen id (stretches test ids) else [] ∷ stretches test ids

-- the runs of a list of refs: the longest stretches of refs whose nodes are there, equal neighbours taken
-- once, where that leaves two nodes or more
abbrev pub runs : List OsmNode → List ℤ → List (List ℤ)
runs nodes refs = filter (λ run. nat_le 2 (length run)) (map (dedup int_eq) (stretches (has_node nodes) refs))

-- the runs of a way, in order; they are numbered from 0
abbrev pub way_runs : List OsmNode → OsmWay → List (List ℤ)
way_runs nodes way = if is_routable way.tags then runs nodes way.refs else []

-- the runs of all ways
abbrev pub all_runs : Extract → List (List ℤ)
all_runs x = flat_map (way_runs x.nodes) x.ways

-- the run with that number of the way with that id, or the empty list where there is none
abbrev pub run : Extract → ℤ → ℕ → List ℤ
run x id number = slice_index_or (option_map_or (way_runs x.nodes) (find (λ way. int_eq way.id id) x.ways) []) number []

-- a node is the first or the last of a run
abbrev pub is_last : ℤ → List ℤ → Bool
is_last n [] = false
is_last n (m ∷ []) = int_eq m n
is_last n (m ∷ (k ∷ ms)) = is_last n (k ∷ ms)

abbrev pub is_first : ℤ → List ℤ → Bool
is_first n [] = false
is_first n (m ∷ ms) = int_eq m n

abbrev pub is_end : ℤ → List ℤ → Bool
is_end n nodes = is_first n nodes || is_last n nodes

-- at how many places of a run a node stands
abbrev pub times : ℤ → List ℤ → ℕ
times n nodes = count_by (λ m. int_eq m n) nodes

-- there is a node of that id with a barrier
abbrev pub has_barrier : List OsmNode → ℤ → Bool
has_barrier nodes id = list_any (λ node. int_eq node.id id && is_barrier node.tags) nodes

-- a junction: a node that is an end of a run, stands at two or more places of the runs, or stands in a run
-- and has a barrier
abbrev pub is_junction : Extract → ℤ → Bool
is_junction x n =
    list_any (is_end n) (all_runs x) || nat_le 2 (sum_by (times n) (all_runs x)) || (has_barrier x.nodes n && nat_le 1 (sum_by (times n) (all_runs x)))
