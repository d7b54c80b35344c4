-- The records of a tile and its GraphIds, and the checks on each behind those that stand before it.
use Rattle.std.specs.Prelude.{◌≡◌, ℕ, ◌<◌, ℤ, pos, neg_ℤ, int_lt, nat_lt, nat_le, ◌==◌, ◌&&◌, ◌||◌, not, Bool, true, List, [], ◌∷◌, length, drop, sum_by, Option, Some, None, Result, Ok, Err, if◌then◌else◌}
use Rattle.fixed_geo.specs.declared.points.Point.{Point}
use Rattle.graph_id.specs.GraphId.{level_of, invalid}
use Rattle.tile_geometry.specs.Grid.{grid_tile, class_level}
use Rattle.tile_records.specs.Nodes.{NodeFields, NodeFits, node_words, node_read}
use Rattle.tile_records.specs.Edges.{EdgeFields, EdgeFits, edge_words, edge_read}
use Rattle.section_grammar.specs.WordBytes.{word_in, words_in, words_bytes}
use Rattle.section_grammar.specs.Answers.{FailedCheck, Check, place_of}
use Rattle.tile_bytes.specs.declared.ids.LevelRule.{LevelRule}
use Rattle.tile_bytes.specs.declared.ids.LevelRule.TheVariants as rules

-- the last of these, where there is one, is less
abbrev pub rises : {A : Type 0} → (A → A → Bool) → List A → A → Bool
rises less [] x = true
rises less (y ∷ []) x = less y x
rises less (y ∷ z ∷ zs) x = rises less (z ∷ zs) x

-- an item that has a spelling, and that passes its test behind those before it
pub record IsNext {A : Type 0} (fits : A → Type 0) (passes : List A → A → Bool) (before : List A) (x : A) : Type 0 where
  pub fits_so : fits x
  pub passes_so : passes before x ≡ true

-- ---- records of four words

-- the next record: four words that spell one, which passes the test behind those before it
unfoldable pub record_found : {R : Type 0} → (List R → R → Bool) → ℕ → ℕ → List R → List ℕ → Option R → Result (R × List ℕ) FailedCheck
record_found passes check end before rest None = Err (Check check (place_of end rest))
record_found passes check end before rest (Some r) = if passes before r then Ok (r, drop 32 rest) else Err (Check check (place_of end rest))

unfoldable pub record_at : {R : Type 0} → (List ℕ → Option R) → (List R → R → Bool) → ℕ → ℕ → List R → List ℕ → Result (R × List ℕ) FailedCheck
record_at read passes check end before rest =
    if nat_lt (length rest) 32 then Err (Check check (place_of end rest))
    else record_found passes check end before rest (read (words_in 4 rest))

-- ---- nodes

-- the edges and the transitions of these nodes
abbrev pub edges_of_nodes : List NodeFields → ℕ
edges_of_nodes nodes = sum_by (λ n. n.edge_count) nodes

abbrev pub transitions_of_nodes : List NodeFields → ℕ
transitions_of_nodes nodes = sum_by (λ n. n.transition_count) nodes

-- a node has a lower OSM id than another
abbrev pub has_lower_id : NodeFields → NodeFields → Bool
has_lower_id m n = int_lt m.osm n.osm

abbrev pub place_of_node : NodeFields → Point
place_of_node n = record { lat = n.lat; lon = n.lon }

-- a number isn't below or above these
abbrev pub is_between : ℤ → ℤ → ℤ → Bool
is_between from to n = not (int_lt n from) && not (int_lt to n)

-- a place on the earth in this tile of the level's grid
abbrev pub lies_in : ℕ → ℕ → Point → Bool
lies_in level tile p =
    is_between (neg_ℤ (pos 900_000_000)) (pos 900_000_000) p.lat
    && is_between (neg_ℤ (pos 1_800_000_000)) (pos 1_800_000_000) p.lon
    && grid_tile level p == tile

-- check 8: a place in this tile, indexes that are the sums of the counts before, one edge or more, two transitions or
-- fewer, and an OSM id above the one before
abbrev pub node_passes : ℕ → ℕ → List NodeFields → NodeFields → Bool
node_passes level tile before n =
    lies_in level tile (place_of_node n)
    && n.edge_index == edges_of_nodes before
    && n.transition_index == transitions_of_nodes before
    && nat_le 1 n.edge_count
    && nat_le n.transition_count 2
    && rises has_lower_id before n

abbrev pub node_bytes : NodeFields → List ℕ
node_bytes n = words_bytes (node_words n)

abbrev pub IsNodeRecord : ℕ → ℕ → List NodeFields → NodeFields → Type 0
IsNodeRecord level tile = IsNext NodeFits (node_passes level tile)

abbrev pub node_record_at : ℕ → ℕ → ℕ → List NodeFields → List ℕ → Result (NodeFields × List ℕ) FailedCheck
node_record_at level tile end = record_at node_read (node_passes level tile) 8 end

-- ---- edges

-- check 9: an end on this level, a class of this level, and `chain` 0 where it is a base edge
abbrev pub edge_passes : ℕ → List EdgeFields → EdgeFields → Bool
edge_passes level before e = level_of e.end == level && class_level e.class == level && (e.shortcut || e.chain == 0)

abbrev pub edge_bytes : EdgeFields → List ℕ
edge_bytes e = words_bytes (edge_words e)

abbrev pub IsEdgeRecord : ℕ → List EdgeFields → EdgeFields → Type 0
IsEdgeRecord level = IsNext EdgeFits (edge_passes level)

abbrev pub edge_record_at : ℕ → ℕ → List EdgeFields → List ℕ → Result (EdgeFields × List ℕ) FailedCheck
edge_record_at level end = record_at edge_read (edge_passes level) 9 end

-- ---- GraphIds

-- the levels that a GraphId may have: one, one of the others, or any of the three
abbrev pub allows : LevelRule → ℕ → Bool
allows (rules.Only level) l = l == level
allows (rules.Except level) l = nat_le l 2 && not (l == level)
allows rules.Any l = nat_le l 2

-- a GraphId of such a level
abbrev pub id_passes : LevelRule → List ℕ → ℕ → Bool
id_passes rule before id = allows rule (level_of id)

abbrev pub IsValid : ℕ → Type 0
IsValid id = id < invalid

abbrev pub IsId : LevelRule → List ℕ → ℕ → Type 0
IsId rule = IsNext IsValid (id_passes rule)

-- the next GraphId, a word
unfoldable pub id_at : LevelRule → ℕ → ℕ → List ℕ → List ℕ → Result (ℕ × List ℕ) FailedCheck
id_at rule check end before rest =
    if nat_lt (length rest) 8 then Err (Check check (place_of end rest)) else
    if nat_lt (word_in rest) invalid && allows rule (level_of (word_in rest))
    then Ok (word_in rest, drop 8 rest) else Err (Check check (place_of end rest))
