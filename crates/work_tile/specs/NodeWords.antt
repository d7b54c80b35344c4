-- The row of a node in its three words.
use Rattle.std.specs.Prelude.{ℕ, List, [], ◌∷◌, nat_eq}
use Rattle.std.specs.Int.{w32, w64, cast_unsigned, cast_signed, from_bool}
use Rattle.bit_words.specs.Bits.{word_of}
use Rattle.tile_records.specs.Layout.{BitSpan, span, number_in, fields_of_word}
use Rattle.work_tile.specs.declared.node_rows.NodeRow.{NodeRow}

-- ---- the table

-- the bits of each field
pub record WorkNodeLayout : Type 0 where
  pub osm : BitSpan
  pub lat : BitSpan
  pub lon : BitSpan
  pub from : BitSpan
  pub access : BitSpan
  pub barrier : BitSpan
  pub density : BitSpan

-- each field's word, first bit and width; the bits above the last field are spare
abbrev pub work_node_layout : WorkNodeLayout
work_node_layout = record {
  osm = span 0 0 64;
  lat = span 1 0 32;
  lon = span 1 32 32;
  from = span 2 0 32;
  access = span 2 32 16;
  barrier = span 2 48 1;
  density = span 2 49 8;
}

-- ---- the words

-- the number that stands in each span
abbrev pub work_node_parts : NodeRow → List (BitSpan × ℕ)
work_node_parts r =
    (work_node_layout.osm, cast_unsigned w64 r.junction.osm)
    ∷ (work_node_layout.lat, cast_unsigned w32 r.junction.at.lat)
    ∷ (work_node_layout.lon, cast_unsigned w32 r.junction.at.lon)
    ∷ (work_node_layout.from, r.from)
    ∷ (work_node_layout.access, r.junction.access)
    ∷ (work_node_layout.barrier, from_bool r.junction.barrier)
    ∷ (work_node_layout.density, r.density)
    ∷ []

abbrev pub work_node_word : NodeRow → ℕ → ℕ
work_node_word r word = word_of (fields_of_word word (work_node_parts r))

-- the three words of a node
unfoldable pub work_node_words : NodeRow → List ℕ
work_node_words r = work_node_word r 0 ∷ work_node_word r 1 ∷ work_node_word r 2 ∷ []

-- the node that three words have
unfoldable pub work_node_of : List ℕ → NodeRow
work_node_of words = record {
  junction = record {
    osm = cast_signed w64 (number_in words work_node_layout.osm);
    at = record {
      lat = cast_signed w32 (number_in words work_node_layout.lat);
      lon = cast_signed w32 (number_in words work_node_layout.lon);
    };
    access = number_in words work_node_layout.access;
    barrier = nat_eq (number_in words work_node_layout.barrier) 1;
  };
  density = number_in words work_node_layout.density;
  from = number_in words work_node_layout.from;
}
