-- The edge that is read from the words of an edge is that edge.
use Rattle.std.proofs.Common.{◌≡◌, ℕ, ◌^◌, ◌<◌, List, refl, ◌∙◌, eqb}
use Rattle.std.proofs.Math.Facts.{Fits-of_z, Fits-lt-pow}
use Rattle.std.proofs.lemmas.Int.{to_z-of_z}
use Rattle.std.specs.Prelude.{ℤ, FitsSigned}
use Rattle.std.specs.Int.{w64, cast_signed, cast_unsigned}
use Rattle.bit_words.specs.Bits.{word_of, FieldsFit, widths_of, fields_from}
use Rattle.tile_records.specs.Layout.{fields_of_word}
use Rattle.work_tile.specs.declared.edge_rows.WorkEdge.{WorkEdge}
use Rattle.work_tile.specs.EdgeWords.{work_edge_parts, work_edge_words, work_edge_of}
use Rattle.work_tile.proofs.Bools.{bool_fits, bool_back, number}

-- each number of the edge fits its type
pub record EdgeInRange (e : WorkEdge) : Type 0 where
  pub way : FitsSigned w64 e.key.key.way
  pub run : e.key.key.run < 2 ^ 32
  pub piece : e.key.key.piece < 2 ^ 32
  pub place : e.place < 2 ^ 32
  pub end : FitsSigned w64 e.end
  pub end_tile : e.end_tile < 2 ^ 32
  pub cm : e.cm < 2 ^ 32
  pub forward_access : e.forward_access < 2 ^ 16
  pub reverse_access : e.reverse_access < 2 ^ 16
  pub local : e.local < 2 ^ 8
  pub class : e.class < 2 ^ 8
  pub mask : e.mask < 2 ^ 8
  pub consistency : e.consistency < 2 ^ 8

edge_from : (a b c d f g : List (ℕ × ℕ)) → WorkEdge
edge_from a b c d f g = record {
  key = record {
    key = record { way = cast_signed w64 (number a 0); run = number b 0; piece = number b 1 };
    forward = eqb (number f 5) 1;
  };
  place = number g 0;
  end = cast_signed w64 (number c 0);
  end_tile = number d 0;
  cm = number d 1;
  local = number f 2;
  forward_access = number f 0;
  reverse_access = number f 1;
  class = number f 3;
  mask = number f 4;
  flagged = eqb (number f 6) 1;
  consistency = number g 1;
  not_thru = eqb (number f 7) 1;
}

same_parts : {a a' b b' c c' d d' f f' g g' : List (ℕ × ℕ)} → a ≡ a' → b ≡ b' → c ≡ c' → d ≡ d' → f ≡ f' → g ≡ g' → edge_from a b c d f g ≡ edge_from a' b' c' d' f' g'
same_parts e0 e1 e2 e3 e4 e5 = cc

-- the fields of a word of an edge, and what is read of it
abbrev part : WorkEdge → ℕ → List (ℕ × ℕ)
part e word = fields_of_word word (work_edge_parts e)

abbrev again : WorkEdge → ℕ → List (ℕ × ℕ)
again e word = fields_from 0 (widths_of (part e word)) (word_of (part e word))

word_below : (z : ℤ) → FitsSigned w64 z → cast_unsigned w64 z < 2 ^ 64
word_below z fits = Fits-lt-pow (Fits-of_z fits)

module _ (back : (fields : List (ℕ × ℕ)) → FieldsFit fields → fields_from 0 (widths_of fields) (word_of fields) ≡ fields) where
  pub edge_again : (e : WorkEdge) → EdgeInRange e → work_edge_of (work_edge_words e) ≡ e
  unfolding work_edge_of work_edge_words edge_from
  edge_again e r =
      let one : work_edge_of (work_edge_words e) ≡ edge_from (again e 0) (again e 1) (again e 2) (again e 3) (again e 4) (again e 5) = refl in
      let two : edge_from (again e 0) (again e 1) (again e 2) (again e 3) (again e 4) (again e 5) ≡ edge_from (part e 0) (part e 1) (part e 2) (part e 3) (part e 4) (part e 5) =
      same_parts
      (back (part e 0) (word_below e.key.key.way r.way, tt))
      (back (part e 1) (r.run, (r.piece, tt)))
      (back (part e 2) (word_below e.end r.end, tt))
      (back (part e 3) (r.end_tile, (r.cm, tt)))
      (back (part e 4) (r.forward_access, (r.reverse_access, (r.local, (r.class, (r.mask, (bool_fits e.key.forward, (bool_fits e.flagged, (bool_fits e.not_thru, tt)))))))))
      (back (part e 5) (r.place, (r.consistency, tt))) in
      let three : edge_from (part e 0) (part e 1) (part e 2) (part e 3) (part e 4) (part e 5) ≡ e =
      rw (to_z-of_z w64 e.key.key.way r.way, to_z-of_z w64 e.end r.end, bool_back e.key.forward, bool_back e.flagged, bool_back e.not_thru) refl in
      one ∙ two ∙ three
