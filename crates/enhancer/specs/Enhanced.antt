-- The enhanced tile.
use Rattle.std.specs.Prelude.{◌≡◌, ◌<◌, ℕ, ℤ, List, map, All}
use Rattle.fixed_geo.specs.Place.{IsPlace}
use Rattle.tile_geometry.specs.Grid.{grid_tile}
use Rattle.osm_model.specs.Extract.{IdsRise}
use Rattle.road_pieces.specs.declared.rows.Piece.{Piece}
use Rattle.work_tile.specs.declared.edge_rows.WorkEdge.{WorkEdge}
use Rattle.work_tile.specs.Places.{place_numbers, NumbersRise}
use Rattle.work_tile.specs.WorkRows.{WorkNode, WorkRows}
use Rattle.enhancer.specs.Graph.{leads_nowhere, end_of}
use Rattle.enhancer.specs.NamesInCommon.{consistency_of}
use Rattle.enhancer.specs.Density.{density_of}

-- the edge, of a node with this tile and OSM id, with its name consistency and whether it is not-thru
abbrev pub enhanced_edge : List Piece → List ℕ → List WorkRows → ℕ → ℕ → ℤ → WorkEdge → WorkEdge
enhanced_edge pieces places ps level tile osm edge = record edge {
  consistency = consistency_of pieces places ps level edge;
  not_thru = leads_nowhere places ps level edge.place (record { tile = tile; osm = osm }) (end_of edge);
}

-- the node with its density and enhanced edges
abbrev pub enhanced_node : List Piece → List ℕ → List WorkRows → ℕ → ℕ → WorkNode → WorkNode
enhanced_node pieces places ps level tile node = record node {
  density = density_of node.at ps;
  edges = map (enhanced_edge pieces places ps level tile node.osm) node.edges;
}

-- the enhanced tile, from the pieces of the roads, the numbers of all tiles, what others may read of all tiles, and the
-- tile itself
abbrev pub enhanced_tile : List Piece → List ℕ → List WorkRows → WorkRows → WorkRows
enhanced_tile pieces places ps rows = record rows { nodes = map (enhanced_node pieces places ps rows.level rows.tile) rows.nodes }

-- the node is at a place in that tile of level 2
abbrev pub StandsIn : ℕ → WorkNode → Type 0
StandsIn tile node = IsPlace node.at × (grid_tile 2 node.at ≡ tile)

-- these are the numbers of the tiles, which rise; all are tiles of level 2, and in each the nodes are in order of OSM id
-- and at places that lie in it
pub record FitPlaces (places : List ℕ) (ps : List WorkRows) : Type 0 where
  pub numbers : place_numbers ps ≡ places
  pub rise : NumbersRise places
  pub levels : All (λ rows. rows.level ≡ 2) ps
  pub counted : All (λ rows. rows.tile < 1_036_800) ps
  pub stand : All (λ rows. All (StandsIn rows.tile) rows.nodes) ps
  pub nodes : All (λ rows. IdsRise (λ (n : WorkNode). n.osm) rows.nodes) ps

-- .. at a place of the world, as a phase tells it
abbrev pub enhanced_at : List Piece → List ℕ → ℕ → List WorkRows → WorkRows → WorkRows
enhanced_at pieces places i ps rows = enhanced_tile pieces places ps rows
