-- No junction has more than 127 base edges and no piece is too long, where the roads aren't refused.
use Rattle.std.proofs.Common.{◌≡◌, ◌∙◌, ◌<◌, ◌≤◌, true, refl, sym, ap, subst, List, [], ◌∷◌, length, get_or, map, ℤ, None, find, inl, arith, ltb-false, nat_lt}
use Rattle.std.specs.Ordering.{int_eq}
use Rattle.std.specs.Cmp.{signed_Decides}
use Rattle.std.proofs.lemmas.List.{length-map}
use Rattle.osm_model.specs.declared.extract.Extract.{Extract}
use Rattle.road_pieces.specs.declared.limits.TheConstants.{LONGEST_PIECE_CM}
use Rattle.road_pieces.specs.declared.rows.Piece.{Piece}
use Rattle.road_pieces.specs.declared.rows.Junction.{Junction}
use Rattle.road_pieces.specs.DirectedPiece.{DirectedPiece}
use Rattle.road_pieces.specs.Lengths.{piece_cm}
use Rattle.road_pieces.specs.Pieces.{IsPiece, piece_start}
use Rattle.road_pieces.specs.Rows.{junction_rows, piece_rows}
use Rattle.road_pieces.proofs.Members.{IsIn, at_in, in_map}
use Rattle.road_walks.specs.BaseEdges.{directed_pieces, base_edges}
use Rattle.road_walks.proofs.Locals.{in_filter, in_directed}
use Rattle.road_walks.proofs.Sorted.{of_filter}
use Rattle.edge_builder.specs.BaseRows.{base_rows, junction_place, too_many, crowded, AreRoads}
use Rattle.edge_builder.specs.ExtractRows.{forward_pieces, piece_of_extract}
use Rattle.edge_builder.proofs.JunctionLemmas.{no_junction, id_there}
use Rattle.edge_builder.proofs.PieceLengths.{length_either_way}
use Rattle.edge_builder.proofs.RowJunctions.{start_inside}
use Rattle.edge_builder.proofs.StageEdges.{row_listed}
use Rattle.edge_builder.proofs.StageRows.{base_told, row_starts}
use Rattle.edge_builder.proofs.TileLemmas.{none_found, fails_at}

-- the same piece, as it runs
abbrev ahead_of : DirectedPiece → DirectedPiece
ahead_of p = record { way = p.way; run = p.run; from = p.from; to = p.to; forward = true }

ahead_piece : (x : Extract) (p : DirectedPiece) → IsPiece x p → IsPiece x (ahead_of p)
ahead_piece x p h = record { rises = h.rises; inside = h.inside; begins = h.begins; ends = h.ends; plain = h.plain }

module _ (x : Extract) (told : piece_rows x ≡ map (piece_of_extract x) (forward_pieces x)) (roads : AreRoads (junction_rows x) (piece_rows x)) where
  abbrev js : List Junction
  js = junction_rows x

  ahead_short : (p : DirectedPiece) → IsPiece x (ahead_of p) → piece_cm x (ahead_of p) ≤ LONGEST_PIECE_CM
  ahead_short p piece =
      let row = piece_of_extract x (ahead_of p) in
      let listed : IsIn (forward_pieces x) (ahead_of p) = in_filter (λ q. q.forward) (directed_pieces x) (ahead_of p) (in_directed x (ahead_of p) piece) refl in
      let (k, (inside, is)) = at_in (piece_rows x) row (subst (λ l. IsIn l row) (sym told) (in_map (piece_of_extract x) (forward_pieces x) (ahead_of p) listed)) in
      subst (λ (r : Piece). r.cm ≤ LONGEST_PIECE_CM) (is row) (roads.short k row inside)

  pub pieces_short : (p : DirectedPiece) → IsPiece x p → piece_cm x p ≤ LONGEST_PIECE_CM
  pieces_short p piece = subst (λ n. n ≤ LONGEST_PIECE_CM) (length_either_way x p.way p.run p.from p.to p.forward) (ahead_short p (ahead_piece x p piece))

  base_count : (n : ℤ) → length (base_rows (piece_rows x) n) ≡ length (base_edges x n)
  base_count n = ap length (base_told x n) ∙ length-map (base_edges x n) _

  -- a junction stands where a piece starts
  junction_there : (p : DirectedPiece) → IsIn (directed_pieces x) p → junction_place js (piece_start x p) < length js
  junction_there p h = subst (λ n. junction_place js n < length js) (row_starts x p) (start_inside js (piece_rows x) _ roads.joined (row_listed x p h))

  few_at : crowded js (piece_rows x) ≡ None → (p : DirectedPiece) → IsIn (directed_pieces x) p → length (base_edges x (piece_start x p)) ≤ 127
  few_at none p h =
      let ps = piece_rows x in
      let n = piece_start x p in
      let low = junction_there p h in
      let test = fails_at (λ (j : Junction). nat_lt 127 (length (base_rows ps j.osm))) js (junction_place js n) no_junction (none_found (too_many ps) (find (λ (j : Junction). nat_lt 127 (length (base_rows ps j.osm))) js) none) low in
      let few = ltb-false 127 (length (base_rows ps (get_or js (junction_place js n) no_junction).osm)) test in
      omega (arith, few, ap (λ m. length (base_rows ps m)) (id_there js n no_junction low), base_count n)

  pub base_few : crowded js (piece_rows x) ≡ None → (n : ℤ) → length (base_edges x n) ≤ 127
  base_few none n = by (base_edges x n) refl
    where
      by : (es : List DirectedPiece) → base_edges x n ≡ es → length (base_edges x n) ≤ 127
      by [] e = omega (arith, ap length e)
      by (p ∷ es) e =
          let here : IsIn (base_edges x n) p = subst (λ l. IsIn l p) (sym e) (inl refl) in
          let (there, starts) = of_filter (λ q. int_eq (piece_start x q) n) (directed_pieces x) p here in
          subst (λ m. length (base_edges x m) ≤ 127) ((signed_Decides (piece_start x p) n).0 starts) (few_at none p there)
