-- Nodes in another order: each spot knows the place by which its tags are found.
use Rattle.std.specs.Prelude.{◌≡◌, ◌⊎◌, ℕ, ◌+◌, List, [], ◌∷◌, ◌++◌, map}
use Rattle.std.specs.List.{slice_index_or}
use Rattle.osm_model.specs.declared.tags.Tag.{Tag}
use Rattle.osm_model.specs.declared.nodes.OsmNode.{OsmNode}
use Rattle.osm_model.specs.declared.nodes.Spot.{Spot}
use Rattle.osm_model.specs.declared.node_spans.TagSpan.{TagSpan}
use Rattle.osm_model.specs.declared.node_order.PlacedSpot.{PlacedSpot}
use Rattle.osm_model.specs.NodeRows.{tags_at, node_of, nodes_from, StandsAt, HasNone, AreNodes, AreSpans}

-- each spot with its place, the first of which is this one
abbrev pub placed_from : ℕ → List Spot → List PlacedSpot
placed_from i [] = []
placed_from i (spot ∷ spots) = record { spot = spot; place = i } ∷ placed_from (i + 1) spots

-- the node of a spot, whose tags are found by its place
abbrev pub placed_node : List Tag → List TagSpan → PlacedSpot → OsmNode
placed_node tags spans one = node_of (tags_at tags spans one.place) one.spot

-- The span of a place, if it has one, is put behind those of the new list, as that of a new place.
abbrev pub AddsSpan : List TagSpan → ℕ → ℕ → List TagSpan → List TagSpan → Type 0
AddsSpan old place new_place before now =
    (HasNone old place × (now ≡ before))
    ⊎ ((k : ℕ) × StandsAt old place k × ((d : TagSpan) → now ≡ before ++ record { place = new_place; from = (slice_index_or old k d).from; to = (slice_index_or old k d).to } ∷ []))

-- The spots and the spans are those of the placed spots, whatever the tags are.
pub record IsInOrder (old : List TagSpan) (placed : List PlacedSpot) (spots : List Spot) (spans : List TagSpan) : Type 0 where
  pub same : (tags : List Tag) → AreSpans tags old → nodes_from tags spans 0 spots ≡ map (placed_node tags old) placed
  pub kept : (tags : List Tag) → AreSpans tags old → AreNodes tags spans spots
