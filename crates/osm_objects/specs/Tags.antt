-- The tags of an object. Keys and values are named by their index in the string table.
use Rattle.std.specs.Prelude.{ℕ, Bool, if◌then◌else◌, List, [], ◌∷◌, Option, Some, None, Result, Ok, Err, slice_get}
use Rattle.std.specs.Str.{is_utf8}
use Rattle.osm_model.specs.declared.tags.Tag.{Tag}
use Rattle.osm_objects.specs.declared.fault.ObjectFault.{ObjectFault}
use Rattle.osm_objects.specs.declared.fault.ObjectFault.TheVariants as faults
use Rattle.osm_objects.specs.Steps.{◌>>=◌, each_joined}
use Rattle.osm_objects.specs.KeptKeys.{is_kept}

abbrev pub found : ℕ → ℕ → Option (List ℕ) → Result (List ℕ) ObjectFault
found at index None = Err (faults.BadString at index)
found at index (Some bytes) = Ok bytes

-- the bytes with this index in the table; `at` is the place of the object that names them
abbrev pub bytes_at : List (List ℕ) → ℕ → ℕ → Result (List ℕ) ObjectFault
bytes_at table at index = found at index (slice_get table index)

-- bytes that are UTF-8
abbrev pub as_text : ℕ → ℕ → List ℕ → Result (List ℕ) ObjectFault
as_text at index bytes = if is_utf8 bytes then Ok bytes else Err (faults.BadString at index)

-- the text with this index
abbrev pub text_at : List (List ℕ) → ℕ → ℕ → Result (List ℕ) ObjectFault
text_at table at index = do
  bytes ← bytes_at table at index
  as_text at index bytes

-- a tag that is kept: key and value are texts
abbrev pub kept_tag : List (List ℕ) → ℕ → (ℕ × ℕ) → Result (List Tag) ObjectFault
kept_tag table at pair = do
  key ← text_at table at pair.0
  value ← text_at table at pair.1
  Ok (record { key = key; value = value } ∷ [])

-- a tag that is dropped: its value is in the table
abbrev pub dropped_tag : List (List ℕ) → ℕ → (ℕ × ℕ) → Result (List Tag) ObjectFault
dropped_tag table at pair = do
  value ← bytes_at table at pair.1
  Ok []

-- whether tags are kept whose key has this index
abbrev pub keeps : List (List ℕ) → ℕ → ℕ → Result Bool ObjectFault
keeps table at index = do
  key ← bytes_at table at index
  Ok (is_kept key)

-- the tag of a key and a value, where it is kept
unfoldable pub tag_of : List (List ℕ) → ℕ → (ℕ × ℕ) → Result (List Tag) ObjectFault
tag_of table at pair = do
  kept ← keeps table at pair.0
  if kept then kept_tag table at pair else dropped_tag table at pair

-- the kept ones among the tags of these pairs, in order
abbrev pub tags_of : List (List ℕ) → ℕ → List (ℕ × ℕ) → Result (List Tag) ObjectFault
tags_of table at pairs = each_joined (tag_of table at) pairs
