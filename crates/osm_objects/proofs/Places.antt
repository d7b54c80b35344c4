-- Where a node lies, by its latitude and its longitude.
use Rattle.std.proofs.Common.{◌≡◌, ℤ, pos, true, false, List, Ok, Err, refl}
use Rattle.osm_model.specs.declared.tags.Tag.{Tag}
use Rattle.osm_objects.specs.declared.fault.ObjectFault.TheVariants.{BadCoordinate}
use Rattle.osm_objects.specs.declared.scale.Scale.{Scale}
use Rattle.osm_objects.specs.Scales.{units_of, is_within}
use Rattle.osm_objects.specs.Coordinates.{node_at}

pub placed_at : (scale : Scale) (lat lon : ℤ) (u v : ℤ) → is_within (pos 900_000_000) (units_of scale.granularity scale.lat_offset lat) ≡ true → is_within (pos 1_800_000_000) (units_of scale.granularity scale.lon_offset lon) ≡ true
    → u ≡ units_of scale.granularity scale.lat_offset lat → v ≡ units_of scale.granularity scale.lon_offset lon → (id : ℤ) (tags : List Tag) → node_at scale id lat lon tags ≡ Ok (record { id = id; lat = u; lon = v; tags = tags })
unfolding node_at
placed_at scale lat lon u v p q e f id tags = rw (e, f, p, q) refl

pub lat_outside : (scale : Scale) (lat lon : ℤ) → is_within (pos 900_000_000) (units_of scale.granularity scale.lat_offset lat) ≡ false → (id : ℤ) (tags : List Tag) → node_at scale id lat lon tags ≡ Err (BadCoordinate id)
unfolding node_at
lat_outside scale lat lon p id tags = rw p refl

pub lon_outside : (scale : Scale) (lat lon : ℤ) → is_within (pos 900_000_000) (units_of scale.granularity scale.lat_offset lat) ≡ true → is_within (pos 1_800_000_000) (units_of scale.granularity scale.lon_offset lon) ≡ false → (id : ℤ) (tags : List Tag) → node_at scale id lat lon tags ≡ Err (BadCoordinate id)
unfolding node_at
lon_outside scale lat lon p q id tags = rw (p, q) refl
