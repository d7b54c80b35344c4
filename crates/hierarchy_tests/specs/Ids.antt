-- The OSM ids of the nodes of a tile.
use Rattle.std.specs.Prelude.{ℤ, List, map}
use Rattle.work_tile.specs.WorkRows.{WorkRows}

abbrev pub ids_of : WorkRows → List ℤ
ids_of rows = map (λ n. n.osm) rows.nodes
