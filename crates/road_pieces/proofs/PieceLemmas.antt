-- Pieces stay as they are where points and names are added after theirs.
use Rattle.std.proofs.Common.{◌≡◌, ℕ, ◌-◌, ◌<◌, ◌≤◌, refl, sym, ◌∙◌, ap, subst, List, [], ◌∷◌, ◌++◌, length, map, take, drop, arith}
use Rattle.std.specs.Prelude.{All, slice_range}
use Rattle.std.proofs.lemmas.List.{map-append, length-append, drop_at}
use Rattle.std.proofs.lemmas.List.Elements.{All-head, All-tail, All-push}
use Rattle.fixed_geo.specs.declared.points.Point.{Point}
use Rattle.osm_model.specs.Grew.{Grew}
use Rattle.road_pieces.specs.declared.rows.Piece.{Piece}
use Rattle.road_pieces.specs.declared.pieces.PieceHead.{PieceHead}
use Rattle.road_pieces.specs.declared.pieces.PieceRow.{PieceRow}
use Rattle.road_pieces.specs.PieceRows.{headed, piece_of, IsWithin, AreWithin}
use Rattle.osm_model.proofs.TextLemmas.{part_append, part_end, grew_none}
use Rattle.road_pieces.proofs.NameLemmas.{longer}

pieces_append : (points more : List Point) (names most : List (List ℕ)) (rows : List PieceRow) → AreWithin points names rows → map (piece_of (points ++ more) (names ++ most)) rows ≡ map (piece_of points names) rows
pieces_append points more names most [] kept = refl
pieces_append points more names most (row ∷ rows) kept =
    let here : IsWithin (length points) (length names) row = All-head (IsWithin (length points) (length names)) row rows kept in
    ap (λ s. headed row.head s row.cm (slice_range (names ++ most) row.names_from row.names_to) ∷ map (piece_of (points ++ more) (names ++ most)) rows) (part_append points more row.shape_from row.shape_to here.shape_rises here.shape_inside) ∙
    (ap (λ n. headed row.head (slice_range points row.shape_from row.shape_to) row.cm n ∷ map (piece_of (points ++ more) (names ++ most)) rows) (part_append names most row.names_from row.names_to here.names_rise here.names_inside) ∙
    ap (λ l. piece_of points names row ∷ l) (pieces_append points more names most rows (All-tail (IsWithin (length points) (length names)) row rows kept)))

-- more points and names leave the pieces
pub pieces_kept : (old : List Piece) (points points' : List Point) (names names' : List (List ℕ)) (rows rows' : List PieceRow) → map (piece_of points names) rows ≡ old → AreWithin points names rows → Grew points points' → Grew names names' → rows' ≡ rows → map (piece_of points' names') rows' ≡ old
pieces_kept old points points' names names' rows rows' e kept g h same =
    ap (map (piece_of points' names')) same ∙ (ap (λ p. map (piece_of p names') rows) g.is ∙ (ap (λ n. map (piece_of (points ++ g.more) n) rows) h.is ∙
    (pieces_append points g.more names h.more rows kept ∙ e)))

-- a piece behind the others, whose names stand among those that are there
pub piece_behind : (old : List Piece) (points points' shape : List Point) (names own : List (List ℕ)) (rows rows' : List PieceRow) (head : PieceHead) (cm a b from to : ℕ) → map (piece_of points names) rows ≡ old → AreWithin points names rows → points' ≡ points ++ shape → a ≡ length points → b ≡ length points' → slice_range names from to ≡ own → rows' ≡ rows ++ record { head = head; cm = cm; shape_from = a; shape_to = b; names_from = from; names_to = to } ∷ [] → map (piece_of points' names) rows' ≡ old ++ headed head shape cm own ∷ []
piece_behind old points points' shape names own rows rows' head cm a b from to e kept g p q named pushed =
    let row : PieceRow = record { head = head; cm = cm; shape_from = a; shape_to = b; names_from = from; names_to = to } in
    let shape_is : slice_range points' a b ≡ shape =
    (λ i. slice_range points' (p i) (q i)) ∙ (ap (λ l. slice_range l (length points) (length l)) g ∙ part_end points shape) in
    ap (map (piece_of points' names)) pushed ∙ (map-append (piece_of points' names) rows (row ∷ []) ∙
    (ap (λ l. l ++ piece_of points' names row ∷ []) (pieces_kept old points points' names names rows rows e kept (record { more = shape; is = g }) (grew_none names) refl) ∙
    (ap (λ s. old ++ headed head s cm (slice_range names from to) ∷ []) shape_is ∙ ap (λ n. old ++ headed head shape cm n ∷ []) named)))

-- the rows stay within the points and the names
wider : (points points' names names' : ℕ) (row : PieceRow) → points ≤ points' → names ≤ names' → IsWithin points names row → IsWithin points' names' row
wider points points' names names' row l m here = record {
  shape_rises = here.shape_rises;
  shape_inside = omega (arith, here.shape_inside);
  names_rise = here.names_rise;
  names_inside = omega (arith, here.names_inside);
}

pub within_kept : (points points' : List Point) (names names' : List (List ℕ)) (rows rows' : List PieceRow) → AreWithin points names rows → Grew points points' → Grew names names' → rows' ≡ rows → AreWithin points' names' rows'
within_kept points points' names names' rows rows' kept g h same =
    subst (AreWithin points' names') (sym same) (λ k d l. wider (length points) (length points') (length names) (length names') _ (longer points points' g) (longer names names' h) (kept k d l))

pub within_more : (points points' : List Point) (names names' : List (List ℕ)) (rows rows' : List PieceRow) (row : PieceRow) → AreWithin points names rows → Grew points points' → Grew names names' → rows' ≡ rows ++ row ∷ [] → IsWithin (length points') (length names') row → AreWithin points' names' rows'
within_more points points' names names' rows rows' row kept g h pushed here =
    subst (AreWithin points' names') (sym pushed) (All-push (IsWithin (length points') (length names')) rows row (within_kept points points' names names' rows rows kept g h refl) here)

-- what was put behind the others, to the end
pub tail_is : {X : Type 0} (xs more ys zs : List X) (n : ℕ) → n ≡ length xs → ys ≡ xs ++ more → zs ≡ ys → slice_range zs n (length zs) ≡ more
tail_is xs more ys zs n at e f =
    ap (λ l. slice_range l n (length l)) (f ∙ e) ∙ (ap (λ k. slice_range (xs ++ more) k (length (xs ++ more))) at ∙ part_end xs more)
