-- Ways (osmformat.proto, Way).
use Rattle.std.specs.Prelude.{ℕ, List, Result, Ok}
use Rattle.std.specs.Int.{w64, cast_signed}
use Rattle.osm_messages.specs.declared.fields.TheConstants.{WAY_ID}
use Rattle.osm_messages.specs.RawNumbers.{WayNumbers}
use Rattle.osm_model.specs.declared.ways.OsmWay.{OsmWay}
use Rattle.osm_objects.specs.declared.fault.ObjectFault.{ObjectFault}
use Rattle.osm_objects.specs.Steps.{◌>>=◌}
use Rattle.osm_objects.specs.Parts.{one_number, pairs_of}
use Rattle.osm_objects.specs.Sums.{sums_of}
use Rattle.osm_objects.specs.Tags.{tags_of}

-- a way; its id is in two's complement
unfoldable pub decoded_way : List (List ℕ) → ℕ → WayNumbers → Result OsmWay ObjectFault
decoded_way table at way = do
  id ← one_number at WAY_ID way.id
  pairs ← pairs_of at way.keys way.vals
  refs ← sums_of at way.refs
  tags ← tags_of table at pairs
  Ok (record { id = cast_signed w64 id; tags = tags; refs = refs })
