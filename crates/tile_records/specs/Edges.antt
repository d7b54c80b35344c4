-- The record of a directed edge, and its four words.
use Rattle.std.specs.Prelude.{ℕ, ◌^◌, ◌<◌, Bool, List, [], ◌∷◌, nat_eq, nat_lt, ◌&&◌, if◌then◌else◌, Option, Some, None}
use Rattle.std.specs.Int.{from_bool}
use Rattle.graph_id.specs.GraphId.{invalid}
use Rattle.tile_records.specs.Layout.{BitSpan, span, number_in, words_with, HasNoSpare, has_no_spare}

pub record EdgeFields : Type 0 where
  pub end : ℕ
  pub mask : ℕ
  pub opposing : ℕ
  pub cm : ℕ
  pub local : ℕ
  pub opposing_local : ℕ
  pub leaves_tile : Bool
  pub shortcut : Bool
  pub not_thru : Bool
  pub forward : Bool
  pub flagged : Bool
  pub in_chain : Bool
  pub forward_access : ℕ
  pub reverse_access : ℕ
  pub class : ℕ
  pub name_consistency : ℕ
  pub info : ℕ
  pub chain : ℕ

-- ---- the table

-- the bits of each field
pub record EdgeLayout : Type 0 where
  pub end : BitSpan
  pub mask : BitSpan
  pub opposing : BitSpan
  pub cm : BitSpan
  pub local : BitSpan
  pub opposing_local : BitSpan
  pub leaves_tile : BitSpan
  pub shortcut : BitSpan
  pub not_thru : BitSpan
  pub forward : BitSpan
  pub flagged : BitSpan
  pub in_chain : BitSpan
  pub forward_access : BitSpan
  pub reverse_access : BitSpan
  pub class : BitSpan
  pub name_consistency : BitSpan
  pub info : BitSpan
  pub chain : BitSpan

-- each field's word, first bit and width; the bits above the last field of a word are spare
abbrev pub edge_layout : EdgeLayout
edge_layout = record {
  end = span 0 0 46;
  mask = span 0 46 8;
  opposing = span 0 54 8;
  cm = span 1 0 28;
  local = span 1 28 7;
  opposing_local = span 1 35 7;
  leaves_tile = span 1 42 1;
  shortcut = span 1 43 1;
  not_thru = span 1 44 1;
  forward = span 1 45 1;
  flagged = span 1 46 1;
  in_chain = span 1 47 1;
  forward_access = span 2 0 16;
  reverse_access = span 2 16 16;
  class = span 2 32 3;
  name_consistency = span 2 35 8;
  info = span 3 0 32;
  chain = span 3 32 32;
}

-- its rows, in order
abbrev pub edge_spans : List BitSpan
edge_spans =
    edge_layout.end
    ∷ edge_layout.mask
    ∷ edge_layout.opposing
    ∷ edge_layout.cm
    ∷ edge_layout.local
    ∷ edge_layout.opposing_local
    ∷ edge_layout.leaves_tile
    ∷ edge_layout.shortcut
    ∷ edge_layout.not_thru
    ∷ edge_layout.forward
    ∷ edge_layout.flagged
    ∷ edge_layout.in_chain
    ∷ edge_layout.forward_access
    ∷ edge_layout.reverse_access
    ∷ edge_layout.class
    ∷ edge_layout.name_consistency
    ∷ edge_layout.info
    ∷ edge_layout.chain
    ∷ []

-- ---- the words

-- the number that stands in each span
abbrev pub edge_parts : EdgeFields → List (BitSpan × ℕ)
edge_parts r =
    (edge_layout.end, r.end)
    ∷ (edge_layout.mask, r.mask)
    ∷ (edge_layout.opposing, r.opposing)
    ∷ (edge_layout.cm, r.cm)
    ∷ (edge_layout.local, r.local)
    ∷ (edge_layout.opposing_local, r.opposing_local)
    ∷ (edge_layout.leaves_tile, from_bool r.leaves_tile)
    ∷ (edge_layout.shortcut, from_bool r.shortcut)
    ∷ (edge_layout.not_thru, from_bool r.not_thru)
    ∷ (edge_layout.forward, from_bool r.forward)
    ∷ (edge_layout.flagged, from_bool r.flagged)
    ∷ (edge_layout.in_chain, from_bool r.in_chain)
    ∷ (edge_layout.forward_access, r.forward_access)
    ∷ (edge_layout.reverse_access, r.reverse_access)
    ∷ (edge_layout.class, r.class)
    ∷ (edge_layout.name_consistency, r.name_consistency)
    ∷ (edge_layout.info, r.info)
    ∷ (edge_layout.chain, r.chain)
    ∷ []

-- the four words of an edge
unfoldable pub edge_words : EdgeFields → List ℕ
edge_words r = words_with (edge_parts r)

-- the fields that four words have
unfoldable pub edge_of : List ℕ → EdgeFields
edge_of words = record {
  end = number_in words edge_layout.end;
  mask = number_in words edge_layout.mask;
  opposing = number_in words edge_layout.opposing;
  cm = number_in words edge_layout.cm;
  local = number_in words edge_layout.local;
  opposing_local = number_in words edge_layout.opposing_local;
  leaves_tile = nat_eq (number_in words edge_layout.leaves_tile) 1;
  shortcut = nat_eq (number_in words edge_layout.shortcut) 1;
  not_thru = nat_eq (number_in words edge_layout.not_thru) 1;
  forward = nat_eq (number_in words edge_layout.forward) 1;
  flagged = nat_eq (number_in words edge_layout.flagged) 1;
  in_chain = nat_eq (number_in words edge_layout.in_chain) 1;
  forward_access = number_in words edge_layout.forward_access;
  reverse_access = number_in words edge_layout.reverse_access;
  class = number_in words edge_layout.class;
  name_consistency = number_in words edge_layout.name_consistency;
  info = number_in words edge_layout.info;
  chain = number_in words edge_layout.chain;
}

-- each field fits its bits
pub record EdgeFits (r : EdgeFields) : Type 0 where
  pub end : r.end < invalid
  pub mask : r.mask < 2 ^ edge_layout.mask.width
  pub opposing : r.opposing < 2 ^ edge_layout.opposing.width
  pub cm : r.cm < 2 ^ edge_layout.cm.width
  pub local : r.local < 2 ^ edge_layout.local.width
  pub opposing_local : r.opposing_local < 2 ^ edge_layout.opposing_local.width
  pub forward_access : r.forward_access < 2 ^ edge_layout.forward_access.width
  pub reverse_access : r.reverse_access < 2 ^ edge_layout.reverse_access.width
  pub class : r.class < 2 ^ edge_layout.class.width
  pub name_consistency : r.name_consistency < 2 ^ edge_layout.name_consistency.width
  pub info : r.info < 2 ^ edge_layout.info.width
  pub chain : r.chain < 2 ^ edge_layout.chain.width

-- four words are those of an edge: no bit is set that no field has, and the end is a valid GraphId
pub record AreEdgeWords (words : List ℕ) : Type 0 where
  pub no_spare : HasNoSpare edge_spans words
  pub valid_end : number_in words edge_layout.end < invalid

-- the edge that four words spell, and none where they spell none
unfoldable pub edge_read : List ℕ → Option EdgeFields
edge_read words =
    if has_no_spare edge_spans words && nat_lt (number_in words edge_layout.end) invalid then Some (edge_of words) else None
