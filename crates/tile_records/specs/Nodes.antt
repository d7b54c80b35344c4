-- The record of a node, and its four words.
use Rattle.std.specs.Prelude.{ℕ, ◌^◌, ◌<◌, ℤ, Bool, List, [], ◌∷◌, FitsSigned, nat_eq, if◌then◌else◌, Option, Some, None}
use Rattle.std.specs.Int.{w32, w64, cast_unsigned, cast_signed, from_bool}
use Rattle.tile_records.specs.Layout.{BitSpan, span, number_in, words_with, HasNoSpare, has_no_spare}

pub record NodeFields : Type 0 where
  pub osm : ℤ
  pub lat : ℤ
  pub lon : ℤ
  pub edge_index : ℕ
  pub edge_count : ℕ
  pub transition_index : ℕ
  pub transition_count : ℕ
  pub access : ℕ
  pub density : ℕ
  pub barrier : Bool

-- ---- the table

-- the bits of each field
pub record NodeLayout : Type 0 where
  pub osm : BitSpan
  pub lat : BitSpan
  pub lon : BitSpan
  pub edge_index : BitSpan
  pub edge_count : BitSpan
  pub transition_index : BitSpan
  pub transition_count : BitSpan
  pub access : BitSpan
  pub density : BitSpan
  pub barrier : BitSpan

-- each field's word, first bit and width; the bits above the last field of a word are spare
abbrev pub node_layout : NodeLayout
node_layout = record {
  osm = span 0 0 64;
  lat = span 1 0 32;
  lon = span 1 32 32;
  edge_index = span 2 0 21;
  edge_count = span 2 21 8;
  transition_index = span 2 29 22;
  transition_count = span 2 51 2;
  access = span 3 0 16;
  density = span 3 16 4;
  barrier = span 3 20 1;
}

-- its rows, in order
abbrev pub node_spans : List BitSpan
node_spans =
    node_layout.osm
    ∷ node_layout.lat
    ∷ node_layout.lon
    ∷ node_layout.edge_index
    ∷ node_layout.edge_count
    ∷ node_layout.transition_index
    ∷ node_layout.transition_count
    ∷ node_layout.access
    ∷ node_layout.density
    ∷ node_layout.barrier
    ∷ []

-- ---- the words

-- the number that stands in each span
abbrev pub node_parts : NodeFields → List (BitSpan × ℕ)
node_parts r =
    (node_layout.osm, cast_unsigned w64 r.osm)
    ∷ (node_layout.lat, cast_unsigned w32 r.lat)
    ∷ (node_layout.lon, cast_unsigned w32 r.lon)
    ∷ (node_layout.edge_index, r.edge_index)
    ∷ (node_layout.edge_count, r.edge_count)
    ∷ (node_layout.transition_index, r.transition_index)
    ∷ (node_layout.transition_count, r.transition_count)
    ∷ (node_layout.access, r.access)
    ∷ (node_layout.density, r.density)
    ∷ (node_layout.barrier, from_bool r.barrier)
    ∷ []

-- the four words of a node
unfoldable pub node_words : NodeFields → List ℕ
node_words r = words_with (node_parts r)

-- the fields that four words have
unfoldable pub node_of : List ℕ → NodeFields
node_of words = record {
  osm = cast_signed w64 (number_in words node_layout.osm);
  lat = cast_signed w32 (number_in words node_layout.lat);
  lon = cast_signed w32 (number_in words node_layout.lon);
  edge_index = number_in words node_layout.edge_index;
  edge_count = number_in words node_layout.edge_count;
  transition_index = number_in words node_layout.transition_index;
  transition_count = number_in words node_layout.transition_count;
  access = number_in words node_layout.access;
  density = number_in words node_layout.density;
  barrier = nat_eq (number_in words node_layout.barrier) 1;
}

-- each field fits its bits
pub record NodeFits (r : NodeFields) : Type 0 where
  pub osm : FitsSigned w64 r.osm
  pub lat : FitsSigned w32 r.lat
  pub lon : FitsSigned w32 r.lon
  pub edge_index : r.edge_index < 2 ^ node_layout.edge_index.width
  pub edge_count : r.edge_count < 2 ^ node_layout.edge_count.width
  pub transition_index : r.transition_index < 2 ^ node_layout.transition_index.width
  pub transition_count : r.transition_count < 2 ^ node_layout.transition_count.width
  pub access : r.access < 2 ^ node_layout.access.width
  pub density : r.density < 2 ^ node_layout.density.width

-- four words are those of a node: no bit is set that no field has
abbrev pub AreNodeWords : List ℕ → Type 0
AreNodeWords words = HasNoSpare node_spans words

-- the node that four words spell, and none where they spell none
unfoldable pub node_read : List ℕ → Option NodeFields
node_read words = if has_no_spare node_spans words then Some (node_of words) else None
