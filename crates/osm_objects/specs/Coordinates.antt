-- Where a node lies.
use Rattle.std.specs.Prelude.{ℤ, pos, ◌&&◌, if◌then◌else◌, List, Result, Ok, Err}
use Rattle.osm_model.specs.declared.tags.Tag.{Tag}
use Rattle.osm_model.specs.declared.nodes.OsmNode.{OsmNode}
use Rattle.osm_objects.specs.declared.fault.ObjectFault.{ObjectFault}
use Rattle.osm_objects.specs.declared.fault.ObjectFault.TheVariants as faults
use Rattle.osm_objects.specs.declared.scale.Scale.{Scale}
use Rattle.osm_objects.specs.Scales.{units_of, is_within}

-- the node at a latitude from -90 to 90 degrees and a longitude from -180 to 180
abbrev pub placed : ℤ → ℤ → ℤ → List Tag → Result OsmNode ObjectFault
placed id lat lon tags =
    if is_within (pos 900_000_000) lat && is_within (pos 1_800_000_000) lon
    then Ok (record { id = id; lat = lat; lon = lon; tags = tags })
    else Err (faults.BadCoordinate id)

-- the node of these numbers
unfoldable pub node_at : Scale → ℤ → ℤ → ℤ → List Tag → Result OsmNode ObjectFault
node_at scale id lat lon tags =
    placed id (units_of scale.granularity scale.lat_offset lat) (units_of scale.granularity scale.lon_offset lon) tags
