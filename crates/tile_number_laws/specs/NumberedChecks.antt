-- What the records of a work tile pass of the checks of a tile file.
use Rattle.std.specs.Prelude.{◌≡◌, ℕ, ◌*◌, ◌≤◌, true, List, [], length, All}
use Rattle.osm_model.specs.Extract.{IdsRise}
use Rattle.tile_geometry.specs.Grid.{class_level}
use Rattle.tile_records.specs.Nodes.{NodeFits}
use Rattle.tile_records.specs.Edges.{EdgeFits}
use Rattle.section_grammar.specs.Reads.{AllGood}
use Rattle.tile_bytes.specs.declared.ids.LevelRule.TheVariants as rules
use Rattle.tile_bytes.specs.Items.{lies_in, edges_of_nodes, transitions_of_nodes, IsNodeRecord, IsEdgeRecord, IsId, IsValid}
use Rattle.work_tile.specs.declared.edge_rows.WorkEdge.{WorkEdge}
use Rattle.work_tile.specs.WorkRows.{WorkNode, WorkRows}
use Rattle.tile_numbers.specs.Records.{edges_of_rows, node_records_of, edge_records_of, transitions_of_rows}

-- a node that lies in the tile, and at which an edge starts
pub record IsInTile (level tile : ℕ) (n : WorkNode) : Type 0 where
  pub lies : lies_in level tile n.at ≡ true
  pub some : 1 ≤ length n.edges

-- Where nodes rise by OSM id, lie in their tile and have an edge each, their records pass one after the other; that
-- each field fits its bits is known of each `NodeRec`.
abbrev pub NumberedNodesPass : Type 0
NumberedNodesPass = (tiles : List WorkRows) (rows : WorkRows) → rows.level ≤ 2 → IdsRise (λ (n : WorkNode). n.osm) rows.nodes → All (IsInTile rows.level rows.tile) rows.nodes → All NodeFits (node_records_of tiles rows)
    → AllGood (IsNodeRecord rows.level rows.tile) [] (node_records_of tiles rows)

-- Where each edge's class is one of the tile's level, the records of edges pass; that each field fits its bits is
-- known of each `EdgeRec`.
abbrev pub NumberedEdgesPass : Type 0
NumberedEdgesPass = (tiles : List WorkRows) (rows : WorkRows) (offsets : List ℕ) → rows.level ≤ 2 → All (λ (e : WorkEdge). class_level e.class ≡ rows.level) (edges_of_rows rows) → All EdgeFits (edge_records_of tiles rows offsets)
    → AllGood (IsEdgeRecord rows.level) [] (edge_records_of tiles rows offsets)

-- The transitions pass: each is a GraphId of another level; that it is below the value that stands for none is known of
-- each `GraphId`.
abbrev pub TransitionsPass : Type 0
TransitionsPass = (tiles : List WorkRows) (rows : WorkRows) → All IsValid (transitions_of_rows tiles rows) → AllGood (IsId (rules.Except rows.level)) [] (transitions_of_rows tiles rows)

-- With an offset for each edge, the counts of the nodes' records add up to the number of edges' records, and to that of
-- transitions, of which a node has at most two.
pub record CountsAgree (tiles : List WorkRows) (rows : WorkRows) (offsets : List ℕ) : Type 0 where
  pub edges : edges_of_nodes (node_records_of tiles rows) ≡ length (edge_records_of tiles rows offsets)
  pub transitions : transitions_of_nodes (node_records_of tiles rows) ≡ length (transitions_of_rows tiles rows)
  pub few_transitions : length (transitions_of_rows tiles rows) ≤ 2 * length (node_records_of tiles rows)

abbrev pub NumberedCountsAgree : Type 0
NumberedCountsAgree = (tiles : List WorkRows) (rows : WorkRows) (offsets : List ℕ) → rows.level ≤ 2 → length offsets ≡ length (edges_of_rows rows) → CountsAgree tiles rows offsets
