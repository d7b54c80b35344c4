-- Words and nodes determine each other.
use Rattle.std.proofs.Common.{◌≡◌, ℕ, ◌^◌, ◌<◌, List, get_or, refl, sym, ◌∙◌, arith, eqb, lit≤}
use Rattle.std.proofs.Math.Facts.{Fits-of_z, Fits-of_lt, Fits-lt-pow, sfits_to_z}
use Rattle.std.proofs.lemmas.Int.{to_z-of_z, of_z-to_z}
use Rattle.std.specs.Prelude.{ℤ, FitsSigned}
use Rattle.std.specs.Int.{w32, w64, cast_signed, cast_unsigned, from_bool}
use Rattle.bit_words.specs.Bits.{word_of, FieldsFit, widths_of, total_width, fields_from}
use Rattle.tile_records.specs.Layout.{AreWords, number_in, fields_of_word, used_bits}
use Rattle.tile_records.specs.Nodes.{NodeFields, NodeFits, node_layout, node_spans, node_parts, node_words, node_of, AreNodeWords}
use Rattle.tile_records.proofs.Flags.{bool_fits, bool_back, bit_back, number, four_are}
use Rattle.tile_records.proofs.RecordParts.{PartsFit, parts_spelled, own_words}

word_below : (z : ℤ) → FitsSigned w64 z → cast_unsigned w64 z < 2 ^ 64
word_below z fits = Fits-lt-pow (Fits-of_z fits)

half_below : (z : ℤ) → FitsSigned w32 z → cast_unsigned w32 z < 2 ^ 32
half_below z fits = Fits-lt-pow (Fits-of_z fits)

node_from : (a b c d : List (ℕ × ℕ)) → NodeFields
node_from a b c d = record {
  osm = cast_signed w64 (number a 0);
  lat = cast_signed w32 (number b 0);
  lon = cast_signed w32 (number b 1);
  edge_index = number c 0;
  edge_count = number c 1;
  transition_index = number c 2;
  transition_count = number c 3;
  access = number d 0;
  density = number d 1;
  barrier = eqb (number d 2) 1;
}

same_parts : {a a' b b' c c' d d' : List (ℕ × ℕ)} → a ≡ a' → b ≡ b' → c ≡ c' → d ≡ d' → node_from a b c d ≡ node_from a' b' c' d'
same_parts e0 e1 e2 e3 = cc

-- the fields of a word of a node, and what is read of it
abbrev part : NodeFields → ℕ → List (ℕ × ℕ)
part r word = fields_of_word word (node_parts r)

abbrev again : NodeFields → ℕ → List (ℕ × ℕ)
again r word = fields_from 0 (widths_of (part r word)) (word_of (part r word))

-- each word's numbers fit
parts_fit : (r : NodeFields) → NodeFits r → PartsFit (node_parts r)
parts_fit r fits = record {
  first = (word_below r.osm fits.osm, tt);
  second = (half_below r.lat fits.lat, (half_below r.lon fits.lon, tt));
  third = (fits.edge_index, (fits.edge_count, (fits.transition_index, (fits.transition_count, tt))));
  fourth = (fits.access, (fits.density, (bool_fits r.barrier, tt)));
}

module _ (law_back : (fields : List (ℕ × ℕ)) → FieldsFit fields → fields_from 0 (widths_of fields) (word_of fields) ≡ fields) where
  pub node_back : (r : NodeFields) → NodeFits r → node_of (node_words r) ≡ r
  unfolding node_of node_words node_from
  node_back r fits =
      let one : node_of (node_words r) ≡ node_from (again r 0) (again r 1) (again r 2) (again r 3) = refl in
      let two : node_from (again r 0) (again r 1) (again r 2) (again r 3) ≡ node_from (part r 0) (part r 1) (part r 2) (part r 3) =
      (let fit = parts_fit r fits in same_parts (law_back (part r 0) fit.first) (law_back (part r 1) fit.second) (law_back (part r 2) fit.third) (law_back (part r 3) fit.fourth)) in
      let three : node_from (part r 0) (part r 1) (part r 2) (part r 3) ≡ r =
      rw (to_z-of_z w64 r.osm fits.osm, to_z-of_z w32 r.lat fits.lat, to_z-of_z w32 r.lon fits.lon, bool_back r.barrier) refl in
      one ∙ two ∙ three

pub node_spelled : ((fields : List (ℕ × ℕ)) → FieldsFit fields → word_of fields < 2 ^ total_width (widths_of fields)) → (r : NodeFields) → NodeFits r → AreWords (node_words r) × AreNodeWords (node_words r)
unfolding node_words
node_spelled law_below r fits = parts_spelled law_below (node_parts r) (lit≤ tt, lit≤ tt, lit≤ tt, lit≤ tt) (parts_fit r fits)

pub node_fits : (words : List ℕ) → AreWords words → NodeFits (node_of words)
unfolding node_of
node_fits words are = record {
  osm = sfits_to_z (Fits-of_lt (omega arith));
  lat = sfits_to_z (Fits-of_lt (omega arith));
  lon = sfits_to_z (Fits-of_lt (omega arith));
  edge_index = omega arith;
  edge_count = omega arith;
  transition_index = omega arith;
  transition_count = omega arith;
  access = omega arith;
  density = omega arith;
}

barrier_is : (words : List ℕ) → from_bool (eqb (number_in words node_layout.barrier) 1) ≡ number_in words node_layout.barrier
barrier_is words = bit_back (number_in words node_layout.barrier) (omega arith)

module _ (law_whole : (widths : List ℕ) (word : ℕ) → word < 2 ^ total_width widths → word_of (fields_from 0 widths word) ≡ word) where
  pub node_whole : (words : List ℕ) → AreWords words → AreNodeWords words → node_words (node_of words) ≡ words
  unfolding node_of node_words
  node_whole words are node =
      let own = own_words law_whole node_spans words node in
      let osm : cast_unsigned w64 (cast_signed w64 (number_in words node_layout.osm)) ≡ number_in words node_layout.osm = of_z-to_z w64 (number_in words node_layout.osm) (omega arith) in
      let lat : cast_unsigned w32 (cast_signed w32 (number_in words node_layout.lat)) ≡ number_in words node_layout.lat = of_z-to_z w32 (number_in words node_layout.lat) (omega arith) in
      let lon : cast_unsigned w32 (cast_signed w32 (number_in words node_layout.lon)) ≡ number_in words node_layout.lon = of_z-to_z w32 (number_in words node_layout.lon) (omega arith) in
      rw (osm, lat, lon, barrier_is words, own.first, own.second, own.third, own.fourth) (sym (four_are words are.four))
