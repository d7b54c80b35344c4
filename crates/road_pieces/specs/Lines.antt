-- How the roads are found: runs are kept as lines, whose nodes are named by their places in the list of nodes.
use Rattle.std.specs.Prelude.{◌≡◌, ◌<◌, ◌≤◌, ℕ, ◌+◌, ◌==◌, ℤ, pos, Bool, true, false, nat_le, List, [], ◌∷◌, ◌++◌, length, All, count_by, sum_by, min, slice_index, if◌then◌else◌}
use Rattle.std.specs.List.{position_or_len, slice_index_or}
use Rattle.std.specs.Ordering.{int_eq}
use Rattle.osm_model.specs.declared.nodes.OsmNode.{OsmNode}
use Rattle.osm_model.specs.declared.ways.OsmWay.{OsmWay}
use Rattle.osm_model.specs.declared.extract.Extract.{Extract}
use Rattle.osm_model.specs.declared.limits.TheConstants.{MOST_REFS}
use Rattle.road_pieces.specs.Rules.{is_routable}
use Rattle.road_pieces.specs.Runs.{has_node, is_junction}

-- a run: its way's place among the ways, its number in the way, the places of its nodes among the nodes
pub record Line : Type 0 where
  pub way : ℕ
  pub number : ℕ
  pub places : List ℕ

-- lines, and the places of a run that isn't whole yet
pub record Draft : Type 0 where
  pub done : List Line
  pub begun : List ℕ

-- the place of the first node with that id
abbrev pub place_of : List OsmNode → ℤ → ℕ
place_of nodes id = position_or_len (λ node. int_eq node.id id) nodes

-- the id of the node at a place; past the last place it doesn't matter which
abbrev pub no_node : OsmNode
no_node = record { id = pos 0; lat = pos 0; lon = pos 0; tags = [] }

abbrev pub id_at : List OsmNode → ℕ → ℤ
id_at nodes place = (slice_index_or nodes place no_node).id

-- the list ends with that number
abbrev pub ends_with : ℕ → List ℕ → Bool
ends_with p [] = false
ends_with p (q ∷ []) = q == p
ends_with p (q ∷ (r ∷ rs)) = ends_with p (r ∷ rs)

-- the list begins with that number
abbrev pub begins_with : ℕ → List ℕ → Bool
begins_with p [] = false
begins_with p (q ∷ qs) = q == p

-- a begun run with one place more, unless it ends there already
abbrev pub extend : List ℕ → ℕ → List ℕ
extend places p = if ends_with p places then places else places ++ p ∷ []

-- what a begun run gives where it ends: a line, if it has two nodes or more
abbrev pub closed : ℕ → ℕ → List ℕ → List Line
closed way number places = if nat_le 2 (length places) then record { way = way; number = number; places = places } ∷ [] else []

abbrev pub next_number : ℕ → List ℕ → ℕ
next_number number places = if nat_le 2 (length places) then number + 1 else number

-- the lines of the refs of a way from a place on, where the begun run came before them
abbrev pub lines_from : List OsmNode → ℕ → ℕ → List ℕ → List ℤ → List Line
lines_from nodes way number places [] = closed way number places
lines_from nodes way number places (id ∷ ids) =
    if has_node nodes id
    then lines_from nodes way number (extend places (place_of nodes id)) ids
    else closed way number places ++ lines_from nodes way (next_number number places) [] ids

-- the lines of the ways of a list, the first of which has that place among all ways
abbrev pub lines_after : List OsmNode → ℕ → List OsmWay → List Line
lines_after nodes place [] = []
lines_after nodes place (way ∷ ways) =
    (if is_routable way.tags then lines_from nodes place 0 [] way.refs else []) ++ lines_after nodes (place + 1) ways

-- the lines of an extract
abbrev pub all_lines : Extract → List Line
all_lines x = lines_after x.nodes 0 x.ways

-- what every line is: its way is there, its nodes are, it has no more nodes than there may be refs, and it
-- begins at a junction
pub record IsSound (x : Extract) (line : Line) : Type 0 where
  pub way : line.way < length x.ways
  pub places : All (λ p. p < length x.nodes) line.places
  pub short : length line.places ≤ MOST_REFS
  pub begins : 0 < length line.places → is_junction x (id_at x.nodes (slice_index line.places 0)) ≡ true

-- how often a place counts in a line: once for each place of the line where it stands, and once more for each
-- end of the line
abbrev pub marks_at : ℕ → List ℕ → ℕ
marks_at p places =
    count_by (λ q. q == p) places + (if begins_with p places then 1 else 0) + (if ends_with p places then 1 else 0)

-- the counts of the nodes are exact up to two
abbrev pub AreCounted : Extract → List ℕ → Type 0
AreCounted x marks =
    (p : ℕ) → p < length x.nodes → min 2 (slice_index marks p) ≡ min 2 (sum_by (λ line. marks_at p line.places) (all_lines x))
