-- The law of listed pieces.
use Rattle.std.proofs.Common.{◌≡◌, ℕ, ◌+◌, refl, sym, ◌∙◌, ap, subst, List, [], ◌∷◌, map, ℤ, Bool, true, false}
use Rattle.std.specs.Prelude.{⊤, sum_by}
use Rattle.std.proofs.lemmas.List.Sums.{sum_by-cons}
use Rattle.osm_model.specs.declared.extract.Extract.{Extract}
use Rattle.road_pieces.specs.declared.rows.Piece.{Piece}
use Rattle.road_pieces.specs.DirectedPiece.{DirectedPiece}
use Rattle.road_pieces.specs.Modes.{all_mode_bits, IsMode}
use Rattle.road_pieces.specs.Paths.{Follows, Leads}
use Rattle.road_pieces.specs.Rules.{Passes}
use Rattle.road_pieces.specs.Runs.{is_junction}
use Rattle.road_pieces.specs.Pieces.{IsPiece, IsKeptJunction, piece_start, piece_end}
use Rattle.road_pieces.specs.Lengths.{piece_cm}
use Rattle.road_pieces.specs.Rows.{piece_rows}
use Rattle.road_pieces.specs.Walks.{MayRide, RoadWalk, PieceWalk}
use Rattle.road_pieces.specs.PlainExtracts.{IsPlainExtract}
use Rattle.road_pieces.specs.ListWalks.{ListedPiece, listed, Ride, ride_start, ride_end, IsRide, PlainWalk, ListsWalks}
use Rattle.road_pieces.proofs.Members.{IsIn, in_from_contains, contains_from_in, in_map, of_map}
use Rattle.road_pieces.proofs.RowLengths.{directed_cm}
use Rattle.road_pieces.proofs.RowPieces.{IsRow, RowPlace, piece_of_row, place_of_row, row_of_piece, piece_from}
use Rattle.road_pieces.proofs.PlainRoads.{open_to_all, none_closed, none_forbidden}
use Rattle.road_pieces.proofs.Agree.{same_walks}

-- the pieces of an extract as a list tells them
abbrev told_rows : Extract → List ListedPiece
told_rows x = map listed (piece_rows x)

-- a ride and a directed piece with the same ends and length
record Alike (x : Extract) (ride : Ride) (p : DirectedPiece) : Type 0 where
  is_ride : IsRide (told_rows x) ride
  exists : IsPiece x p
  starts : ride_start ride ≡ piece_start x p
  ends : ride_end ride ≡ piece_end x p
  long : ride.piece.cm ≡ piece_cm x p

-- a row of the list, walked in one direction
abbrev ride_on : Piece → Bool → Ride
ride_on row forward = record { piece = listed row; forward = forward }

alike_at : (x : Extract) (row : Piece) (way : ℤ) (number from to : ℕ) (forward : Bool) → IsRide (told_rows x) (ride_on row forward) → IsRow x row way number from to → Alike x (ride_on row forward) (record { way = way; run = number; from = from; to = to; forward = forward })
alike_at x row way number from to true rides is = record {
  is_ride = rides;
  exists = piece_of_row x row way number from to true is;
  starts = is.start;
  ends = is.end;
  long = is.cm ∙ sym (directed_cm x way number from to true);
}
alike_at x row way number from to false rides is = record {
  is_ride = rides;
  exists = piece_of_row x row way number from to false is;
  starts = is.end;
  ends = is.start;
  long = is.cm ∙ sym (directed_cm x way number from to false);
}

ride_of : (x : Extract) (p : DirectedPiece) → IsPiece x p → (ride : Ride) × Alike x ride p
ride_of x p is =
    let (row, (is_in, is_row)) = row_of_piece x p is in
    (ride_on row p.forward, alike_at x row p.way p.run p.from p.to p.forward (contains_from_in (told_rows x) (listed row) (in_map listed (piece_rows x) row is_in)) is_row)

-- a row, walked, is a directed piece
piece_on : (x : Extract) (row : Piece) (forward : Bool) → IsIn (piece_rows x) row → IsRide (told_rows x) (ride_on row forward) → (p : DirectedPiece) × Alike x (ride_on row forward) p
piece_on x row forward is_in rides =
    let place : RowPlace x row = place_of_row x row is_in in
    (record { way = place.way; run = place.run; from = place.from; to = place.to; forward = forward }, alike_at x row place.way place.run place.from place.to forward rides place.is)

piece_of : (x : Extract) (ride : Ride) → IsRide (told_rows x) ride → (p : DirectedPiece) × Alike x ride p
piece_of x ride rides =
    let (row, (is_in, is)) = of_map listed (piece_rows x) ride.piece (in_from_contains (told_rows x) ride.piece rides) in
    let same : ride_on row ride.forward ≡ ride = ap (λ piece. record { piece = piece; forward = ride.forward }) is in
    subst (λ r. (p : DirectedPiece) × Alike x r p) same (piece_on x row ride.forward is_in (subst (IsRide (told_rows x)) (sym same) rides))

any_follows : {E : Type 0} (Next : E → E → Type 0) (e : E) (es : List E) → ((f : E) → Next e f) → Follows Next e es
any_follows Next e [] may = tt
any_follows Next e (f ∷ es) may = may f

module _ (x : Extract) (plain : IsPlainExtract x) (mode : ℕ) (one : IsMode mode) where
  abbrev PiecesLead : ℤ → List DirectedPiece → ℤ → Type 0
  PiecesLead a ps b = Leads (MayRide x all_mode_bits mode) (piece_start x) (piece_end x) (λ p q. Passes x mode (piece_end x p)) a ps b

  abbrev RidesLead : ℤ → List Ride → ℤ → Type 0
  RidesLead a rs b = Leads (IsRide (told_rows x)) ride_start ride_end (λ ride next. ⊤) a rs b

  abbrev rides_cm : List Ride → ℕ
  rides_cm rs = sum_by (λ ride. ride.piece.cm) rs

  rides_from : (ps : List DirectedPiece) (a b : ℤ) → PiecesLead a ps b → (rs : List Ride) × (RidesLead a rs b × (rides_cm rs ≡ sum_by (piece_cm x) ps))
  rides_from [] a b lead = ([], (lead, refl))
  rides_from (p ∷ ps) a b (may, begins, follows, lead) =
      let (r, alike) = ride_of x p may.exists in
      let (rs, (leads, sum)) = rides_from ps (piece_end x p) b lead in
      let cm = sum_by-cons (λ ride. ride.piece.cm) r rs ∙ (ap (λ n. n + rides_cm rs) alike.long ∙ (ap (λ n. piece_cm x p + n) sum ∙ sym (sum_by-cons (piece_cm x) p ps))) in
      (r ∷ rs, ((alike.is_ride, alike.starts ∙ begins, any_follows (λ ride next. ⊤) r rs (λ next. tt), subst (λ n. RidesLead n rs b) (sym alike.ends) leads), cm))

  pieces_from : (rs : List Ride) (a b : ℤ) → RidesLead a rs b → (ps : List DirectedPiece) × (PiecesLead a ps b × (sum_by (piece_cm x) ps ≡ rides_cm rs))
  pieces_from [] a b lead = ([], (lead, refl))
  pieces_from (r ∷ rs) a b (rides, begins, follows, lead) =
      let (p, alike) = piece_of x r rides in
      let (ps, (leads, sum)) = pieces_from rs (ride_end r) b lead in
      let cm = sum_by-cons (piece_cm x) p ps ∙ (ap (λ n. n + sum_by (piece_cm x) ps) (sym alike.long) ∙ (ap (λ n. r.piece.cm + n) sum ∙ sym (sum_by-cons (λ ride. ride.piece.cm) r rs))) in
      (p ∷ ps, ((open_to_all x plain mode p one alike.exists, sym alike.starts ∙ begins, any_follows (λ p q. Passes x mode (piece_end x p)) p ps (λ q. none_closed x plain mode (piece_end x p) one), subst (λ n. PiecesLead n ps b) alike.ends leads), cm))

  kept : (n : ℤ) → is_junction x n ≡ true → IsKeptJunction x all_mode_bits n
  kept n here =
      let (p, (is, starts)) = piece_from x n here in
      (p, is, (open_to_all x plain mode p one is).may.0, starts)

  to_list : (a b : ℤ) (total : ℕ) → RoadWalk x all_mode_bits mode a b total → PlainWalk (told_rows x) a b total
  to_list a b total w =
      let pieces : PieceWalk x all_mode_bits mode a b total = (same_walks x all_mode_bits mode a b total).0 w in
      let (rs, (leads, sum)) = rides_from pieces.pieces a b pieces.leads in
      record { rides = rs; leads = leads; length_is = sum ∙ pieces.length_is }

  from_list : (a b : ℤ) (total : ℕ) → is_junction x a ≡ true → is_junction x b ≡ true → PlainWalk (told_rows x) a b total → RoadWalk x all_mode_bits mode a b total
  from_list a b total here there w =
      let (ps, (leads, sum)) = pieces_from w.rides a b w.leads in
      (same_walks x all_mode_bits mode a b total).1 (record {
        starts = kept a here;
        ends = kept b there;
        pieces = ps;
        leads = leads;
        permitted = λ pattern is stands. none_forbidden x plain mode pattern is;
        length_is = sum ∙ w.length_is;
      })

pub lists_walks : ListsWalks
lists_walks x plain mode one a b here there total = (to_list x plain mode one a b total, from_list x plain mode one a b total here there)
