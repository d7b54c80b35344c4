-- Words and edges determine each other.
use Rattle.std.proofs.Common.{◌≡◌, ℕ, ◌/◌, ◌%◌, ◌^◌, ◌<◌, List, get_or, refl, sym, ap, ◌∙◌, arith, eqb, lit≤}
use Rattle.std.proofs.lemmas.Nat.{mod_below}
use Rattle.std.specs.Int.{from_bool}
use Rattle.bit_words.specs.Bits.{word_of, FieldsFit, widths_of, total_width, fields_from}
use Rattle.tile_records.specs.Layout.{AreWords, number_in, fields_of_word, used_bits}
use Rattle.tile_records.specs.Edges.{EdgeFields, EdgeFits, edge_layout, edge_spans, edge_parts, edge_words, edge_of, AreEdgeWords}
use Rattle.tile_records.proofs.Flags.{bool_fits, bool_back, bit_back, number, four_are}
use Rattle.tile_records.proofs.RecordParts.{PartsFit, parts_spelled, own_words}

edge_from : (a b c d : List (ℕ × ℕ)) → EdgeFields
edge_from a b c d = record {
  end = number a 0;
  mask = number a 1;
  opposing = number a 2;
  cm = number b 0;
  local = number b 1;
  opposing_local = number b 2;
  leaves_tile = eqb (number b 3) 1;
  shortcut = eqb (number b 4) 1;
  not_thru = eqb (number b 5) 1;
  forward = eqb (number b 6) 1;
  flagged = eqb (number b 7) 1;
  in_chain = eqb (number b 8) 1;
  forward_access = number c 0;
  reverse_access = number c 1;
  class = number c 2;
  name_consistency = number c 3;
  info = number d 0;
  chain = number d 1;
}

same_parts : {a a' b b' c c' d d' : List (ℕ × ℕ)} → a ≡ a' → b ≡ b' → c ≡ c' → d ≡ d' → edge_from a b c d ≡ edge_from a' b' c' d'
same_parts e0 e1 e2 e3 = cc

-- the fields of a word of an edge, and what is read of it
abbrev part : EdgeFields → ℕ → List (ℕ × ℕ)
part r word = fields_of_word word (edge_parts r)

abbrev again : EdgeFields → ℕ → List (ℕ × ℕ)
again r word = fields_from 0 (widths_of (part r word)) (word_of (part r word))

-- each word's numbers fit
parts_fit : (r : EdgeFields) → EdgeFits r → PartsFit (edge_parts r)
parts_fit r fits = record {
  first = (omega (arith, fits.end), (fits.mask, (fits.opposing, tt)));
  second = (fits.cm, (fits.local, (fits.opposing_local, (bool_fits r.leaves_tile, (bool_fits r.shortcut, (bool_fits r.not_thru, (bool_fits r.forward, (bool_fits r.flagged, (bool_fits r.in_chain, tt)))))))));
  third = (fits.forward_access, (fits.reverse_access, (fits.class, (fits.name_consistency, tt))));
  fourth = (fits.info, (fits.chain, tt));
}

module _ (law_back : (fields : List (ℕ × ℕ)) → FieldsFit fields → fields_from 0 (widths_of fields) (word_of fields) ≡ fields) where
  pub edge_back : (r : EdgeFields) → EdgeFits r → edge_of (edge_words r) ≡ r
  unfolding edge_of edge_words edge_from
  edge_back r fits =
      let one : edge_of (edge_words r) ≡ edge_from (again r 0) (again r 1) (again r 2) (again r 3) = refl in
      let two : edge_from (again r 0) (again r 1) (again r 2) (again r 3) ≡ edge_from (part r 0) (part r 1) (part r 2) (part r 3) =
      (let fit = parts_fit r fits in same_parts (law_back (part r 0) fit.first) (law_back (part r 1) fit.second) (law_back (part r 2) fit.third) (law_back (part r 3) fit.fourth)) in
      let three : edge_from (part r 0) (part r 1) (part r 2) (part r 3) ≡ r =
      rw (bool_back r.leaves_tile, bool_back r.shortcut, bool_back r.not_thru, bool_back r.forward, bool_back r.flagged, bool_back r.in_chain) refl in
      one ∙ two ∙ three

-- the words of an edge
module _ (law_below : (fields : List (ℕ × ℕ)) → FieldsFit fields → word_of fields < 2 ^ total_width (widths_of fields))
    (law_back : (fields : List (ℕ × ℕ)) → FieldsFit fields → fields_from 0 (widths_of fields) (word_of fields) ≡ fields) where
  end_back : (r : EdgeFields) → EdgeFits r → number_in (edge_words r) edge_layout.end ≡ r.end
  unfolding edge_words
  end_back r fits = let e : number (again r 0) 0 ≡ r.end = ap (λ fs. number fs 0) (law_back (part r 0) (parts_fit r fits).first) in e

  pub edge_spelled : (r : EdgeFields) → EdgeFits r → AreWords (edge_words r) × AreEdgeWords (edge_words r)
  unfolding edge_words
  edge_spelled r fits =
      let spelled = parts_spelled law_below (edge_parts r) (lit≤ tt, lit≤ tt, lit≤ tt, lit≤ tt) (parts_fit r fits) in
      (spelled.0, record { no_spare = spelled.1; valid_end = rw (end_back r fits) fits.end })

pub edge_fits : (words : List ℕ) → AreEdgeWords words → EdgeFits (edge_of words)
unfolding edge_of
edge_fits words edge = record {
  end = edge.valid_end;
  mask = omega arith;
  opposing = omega arith;
  cm = omega arith;
  local = omega arith;
  opposing_local = omega arith;
  forward_access = omega arith;
  reverse_access = omega arith;
  class = omega arith;
  name_consistency = omega arith;
  info = omega arith;
  chain = omega arith;
}

-- a flag of the second word
flag_is : (words : List ℕ) (first : ℕ) → from_bool (eqb (get_or words 1 0 / 2 ^ first % 2 ^ 1) 1) ≡ get_or words 1 0 / 2 ^ first % 2 ^ 1
flag_is words first = bit_back (get_or words 1 0 / 2 ^ first % 2 ^ 1) (mod_below (get_or words 1 0 / 2 ^ first) (2 ^ 1) (omega arith))

module _ (law_whole : (widths : List ℕ) (word : ℕ) → word < 2 ^ total_width widths → word_of (fields_from 0 widths word) ≡ word) where
  pub edge_whole : (words : List ℕ) → AreWords words → AreEdgeWords words → edge_words (edge_of words) ≡ words
  unfolding edge_of edge_words
  edge_whole words are edge =
      let own = own_words law_whole edge_spans words edge.no_spare in
      rw (flag_is words edge_layout.leaves_tile.first, flag_is words edge_layout.shortcut.first, flag_is words edge_layout.not_thru.first, flag_is words edge_layout.forward.first, flag_is words edge_layout.flagged.first, flag_is words edge_layout.in_chain.first, own.first, own.second, own.third, own.fourth) (sym (four_are words are.four))
