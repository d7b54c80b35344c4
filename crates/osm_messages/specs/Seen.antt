-- What the program reads, as the definitions see it.
use Rattle.std.specs.Prelude.{ℕ, List, map}
use Rattle.std.specs.Borrow.{Bor}
use Rattle.std.specs.Option.{option_map}
use Rattle.osm_messages.specs.declared.object.RawObject.{RawObject}
use Rattle.osm_messages.specs.declared.block.RawPrimitiveBlock.{RawPrimitiveBlock}
use Rattle.osm_messages.specs.Groups.{Object}
use Rattle.osm_messages.specs.Blocks.{Block}

abbrev pub seen_object : RawObject → Object
seen_object object = record { kind = object.kind; at = object.at; bytes = object.bytes.now }

abbrev pub seen_block : RawPrimitiveBlock → Block
seen_block block = record {
  texts = option_map (λ texts. map (λ text. text.now) texts.items) block.texts;
  objects = map seen_object block.objects.items;
  granularity = block.granularity;
  lat_offset = block.lat_offset;
  lon_offset = block.lon_offset;
}

-- features with their places
abbrev pub seen_features : List (ℕ × Bor (List ℕ)) → List (ℕ × List ℕ)
seen_features features = map (λ feature. (feature.0, feature.1.now)) features
