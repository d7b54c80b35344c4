-- The row that is read from the words of a row of a node is that row.
use Rattle.std.proofs.Common.{◌≡◌, ℕ, ◌^◌, ◌<◌, List, refl, ◌∙◌, eqb}
use Rattle.std.proofs.Math.Facts.{Fits-of_z, Fits-lt-pow}
use Rattle.std.proofs.lemmas.Int.{to_z-of_z}
use Rattle.std.specs.Prelude.{ℤ, FitsSigned}
use Rattle.std.specs.Int.{w32, w64, cast_signed, cast_unsigned}
use Rattle.bit_words.specs.Bits.{word_of, FieldsFit, widths_of, fields_from}
use Rattle.tile_records.specs.Layout.{fields_of_word}
use Rattle.work_tile.specs.declared.node_rows.NodeRow.{NodeRow}
use Rattle.work_tile.specs.NodeWords.{work_node_parts, work_node_words, work_node_of}
use Rattle.work_tile.proofs.Bools.{bool_fits, bool_back, number}

-- each number of the row fits its type
pub record NodeInRange (r : NodeRow) : Type 0 where
  pub osm : FitsSigned w64 r.junction.osm
  pub lat : FitsSigned w32 r.junction.at.lat
  pub lon : FitsSigned w32 r.junction.at.lon
  pub from : r.from < 2 ^ 32
  pub access : r.junction.access < 2 ^ 16
  pub density : r.density < 2 ^ 8

row_from : (a b c : List (ℕ × ℕ)) → NodeRow
row_from a b c = record {
  junction = record {
    osm = cast_signed w64 (number a 0);
    at = record { lat = cast_signed w32 (number b 0); lon = cast_signed w32 (number b 1) };
    access = number c 1;
    barrier = eqb (number c 2) 1;
  };
  density = number c 3;
  from = number c 0;
}

same_parts : {a a' b b' c c' : List (ℕ × ℕ)} → a ≡ a' → b ≡ b' → c ≡ c' → row_from a b c ≡ row_from a' b' c'
same_parts e0 e1 e2 = cc

-- the fields of a word of a row, and what is read of it
abbrev part : NodeRow → ℕ → List (ℕ × ℕ)
part r word = fields_of_word word (work_node_parts r)

abbrev again : NodeRow → ℕ → List (ℕ × ℕ)
again r word = fields_from 0 (widths_of (part r word)) (word_of (part r word))

word_below : (z : ℤ) → FitsSigned w64 z → cast_unsigned w64 z < 2 ^ 64
word_below z fits = Fits-lt-pow (Fits-of_z fits)

half_below : (z : ℤ) → FitsSigned w32 z → cast_unsigned w32 z < 2 ^ 32
half_below z fits = Fits-lt-pow (Fits-of_z fits)

module _ (back : (fields : List (ℕ × ℕ)) → FieldsFit fields → fields_from 0 (widths_of fields) (word_of fields) ≡ fields) where
  pub row_again : (r : NodeRow) → NodeInRange r → work_node_of (work_node_words r) ≡ r
  unfolding work_node_of work_node_words row_from
  row_again r fits =
      let one : work_node_of (work_node_words r) ≡ row_from (again r 0) (again r 1) (again r 2) = refl in
      let two : row_from (again r 0) (again r 1) (again r 2) ≡ row_from (part r 0) (part r 1) (part r 2) =
      same_parts
      (back (part r 0) (word_below r.junction.osm fits.osm, tt))
      (back (part r 1) (half_below r.junction.at.lat fits.lat, (half_below r.junction.at.lon fits.lon, tt)))
      (back (part r 2) (fits.from, (fits.access, (bool_fits r.junction.barrier, (fits.density, tt))))) in
      let three : row_from (part r 0) (part r 1) (part r 2) ≡ r =
      rw (to_z-of_z w64 r.junction.osm fits.osm, to_z-of_z w32 r.junction.at.lat fits.lat, to_z-of_z w32 r.junction.at.lon fits.lon, bool_back r.junction.barrier) refl in
      one ∙ two ∙ three
