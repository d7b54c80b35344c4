-- What the reader keeps of the nodes that it has read; for its loop alone.
use Rattle.std.specs.Prelude.{◌≡◌, ℤ, int_lt, Bool, true, List, Option, Some, None}
use Rattle.tile_records.specs.Nodes.{NodeFields}
use Rattle.tile_bytes.specs.declared.items.Sums.{Sums}
use Rattle.tile_bytes.specs.Items.{edges_of_nodes, transitions_of_nodes, rises, has_lower_id}

abbrev pub above_last : Option ℤ → ℤ → Bool
above_last None osm = true
above_last (Some last) osm = int_lt last osm

pub record SumsUp (before : List NodeFields) (sums : Sums) : Type 0 where
  pub edge_sum : sums.edges ≡ edges_of_nodes before
  pub transition_sum : sums.transitions ≡ transitions_of_nodes before
  pub last_id : (n : NodeFields) → rises has_lower_id before n ≡ above_last sums.last n.osm
