-- The row of an edge in its six words.
use Rattle.std.specs.Prelude.{ℕ, List, [], ◌∷◌, nat_eq}
use Rattle.std.specs.Int.{w64, cast_unsigned, cast_signed, from_bool}
use Rattle.bit_words.specs.Bits.{word_of}
use Rattle.tile_records.specs.Layout.{BitSpan, span, number_in, fields_of_word}
use Rattle.work_tile.specs.declared.edge_rows.WorkEdge.{WorkEdge}

-- ---- the table

-- the bits of each field
pub record WorkEdgeLayout : Type 0 where
  pub way : BitSpan
  pub run : BitSpan
  pub piece : BitSpan
  pub end : BitSpan
  pub end_tile : BitSpan
  pub cm : BitSpan
  pub forward_access : BitSpan
  pub reverse_access : BitSpan
  pub local : BitSpan
  pub class : BitSpan
  pub mask : BitSpan
  pub forward : BitSpan
  pub flagged : BitSpan
  pub not_thru : BitSpan
  pub place : BitSpan
  pub consistency : BitSpan

-- each field's word, first bit and width; the bits above the last field are spare
abbrev pub work_edge_layout : WorkEdgeLayout
work_edge_layout = record {
  way = span 0 0 64;
  run = span 1 0 32;
  piece = span 1 32 32;
  end = span 2 0 64;
  end_tile = span 3 0 32;
  cm = span 3 32 32;
  forward_access = span 4 0 16;
  reverse_access = span 4 16 16;
  local = span 4 32 8;
  class = span 4 40 8;
  mask = span 4 48 8;
  forward = span 4 56 1;
  flagged = span 4 57 1;
  not_thru = span 4 58 1;
  place = span 5 0 32;
  consistency = span 5 32 8;
}

-- ---- the words

-- the number that stands in each span
abbrev pub work_edge_parts : WorkEdge → List (BitSpan × ℕ)
work_edge_parts e =
    (work_edge_layout.way, cast_unsigned w64 e.key.key.way)
    ∷ (work_edge_layout.run, e.key.key.run)
    ∷ (work_edge_layout.piece, e.key.key.piece)
    ∷ (work_edge_layout.end, cast_unsigned w64 e.end)
    ∷ (work_edge_layout.end_tile, e.end_tile)
    ∷ (work_edge_layout.cm, e.cm)
    ∷ (work_edge_layout.forward_access, e.forward_access)
    ∷ (work_edge_layout.reverse_access, e.reverse_access)
    ∷ (work_edge_layout.local, e.local)
    ∷ (work_edge_layout.class, e.class)
    ∷ (work_edge_layout.mask, e.mask)
    ∷ (work_edge_layout.forward, from_bool e.key.forward)
    ∷ (work_edge_layout.flagged, from_bool e.flagged)
    ∷ (work_edge_layout.not_thru, from_bool e.not_thru)
    ∷ (work_edge_layout.place, e.place)
    ∷ (work_edge_layout.consistency, e.consistency)
    ∷ []

abbrev pub work_edge_word : WorkEdge → ℕ → ℕ
work_edge_word e word = word_of (fields_of_word word (work_edge_parts e))

-- the six words of an edge
unfoldable pub work_edge_words : WorkEdge → List ℕ
work_edge_words e =
    work_edge_word e 0
    ∷ work_edge_word e 1
    ∷ work_edge_word e 2
    ∷ work_edge_word e 3
    ∷ work_edge_word e 4
    ∷ work_edge_word e 5
    ∷ []

-- the edge that six words have
unfoldable pub work_edge_of : List ℕ → WorkEdge
work_edge_of words = record {
  key = record {
    key = record {
      way = cast_signed w64 (number_in words work_edge_layout.way);
      run = number_in words work_edge_layout.run;
      piece = number_in words work_edge_layout.piece;
    };
    forward = nat_eq (number_in words work_edge_layout.forward) 1;
  };
  place = number_in words work_edge_layout.place;
  end = cast_signed w64 (number_in words work_edge_layout.end);
  end_tile = number_in words work_edge_layout.end_tile;
  cm = number_in words work_edge_layout.cm;
  local = number_in words work_edge_layout.local;
  forward_access = number_in words work_edge_layout.forward_access;
  reverse_access = number_in words work_edge_layout.reverse_access;
  class = number_in words work_edge_layout.class;
  mask = number_in words work_edge_layout.mask;
  flagged = nat_eq (number_in words work_edge_layout.flagged) 1;
  consistency = number_in words work_edge_layout.consistency;
  not_thru = nat_eq (number_in words work_edge_layout.not_thru) 1;
}
