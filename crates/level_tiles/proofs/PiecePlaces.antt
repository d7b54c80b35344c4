-- The places of the pieces of edges, where the edges are the directed pieces that start somewhere: those of the pieces of
-- which one starts there in some direction.
use Rattle.std.proofs.Common.{◌≡◌, ℕ, ◌+◌, ◌<◌, ◌∙◌, refl, sym, ap, subst, List, length, map, filter, get_or, pos, Bool, true, false, not, ◌||◌, inl, inr, arith, nat_eq, nat_lt}
use Rattle.std.specs.List.{position_or_len}
use Rattle.std.proofs.lemmas.Bool.{both_ways, or_cases, or_left, or_right}
use Rattle.std.proofs.lemmas.List.Sums.{passes_at_first}
use Rattle.osm_model.specs.declared.extract.Extract.{Extract}
use Rattle.road_pieces.specs.DirectedPiece.{DirectedPiece}
use Rattle.road_pieces.specs.Pieces.{IsPiece}
use Rattle.road_pieces.specs.Rows.{stops}
use Rattle.road_pieces.specs.Among.{Once}
use Rattle.road_pieces.specs.declared.rows.Piece.{Piece}
use Rattle.road_pieces.proofs.Members.{IsIn, in_at, in_map, of_map}
use Rattle.road_walks.specs.BaseEdges.{directed_pieces, is_same, reverse_of}
use Rattle.road_walks.specs.Orders.{rising}
use Rattle.road_walks.proofs.Locals.{in_filter, in_directed, same_itself, same_only}
use Rattle.road_walks.proofs.Reverses.{turned_twice}
use Rattle.road_walks.proofs.PiecesAre.{pieces_are}
use Rattle.road_walks.proofs.PiecesOnce.{pieces_once}
use Rattle.road_walks.proofs.Sorted.{of_filter, in_rising, of_rising, once_filter, numbers_connected, below_self, below_on, one_sorted, rising_sorted}
use Rattle.folder_spec.specs.Tables.{first_index}
use Rattle.tile_infos.specs.TileEntries.{pieces_at}
use Rattle.edge_builder.specs.ExtractRows.{forward_pieces, is_of_piece, piece_place}
use Rattle.level_tiles.proofs.PieceLists.{first_is_place, of_stops, in_stops, stops_sorted, at_stops, place_among, first_below, first_at}

-- ---- a directed piece and its piece

turned_apart : (p q : DirectedPiece) → p.forward ≡ true → q.forward ≡ true → q ≡ reverse_of p → ⊥
turned_apart p q up on is = both_ways q.forward (ap (λ d. d.forward) is ∙ ap not up) on

-- a forward piece is the piece of itself alone ..
own_piece : (p q : DirectedPiece) → p.forward ≡ true → q.forward ≡ true → is_of_piece p q ≡ true → q ≡ p
own_piece p q up on h =
    elim (or_cases (is_same q p) (is_same q (reverse_of p)) h) [
      | inl same ↦ same_only q p same
      | inr turned ↦ absurd (turned_apart p q up on (same_only q (reverse_of p) turned))
    ]

-- .. and of its reverse
turned_piece : (p q : DirectedPiece) → p.forward ≡ true → q.forward ≡ true → is_of_piece (reverse_of p) q ≡ true → q ≡ p
turned_piece p q up on h =
    elim (or_cases (is_same q (reverse_of p)) (is_same q (reverse_of (reverse_of p))) h) [
      | inl same ↦ absurd (turned_apart p q up on (same_only q (reverse_of p) same))
      | inr turned ↦ same_only q (reverse_of (reverse_of p)) turned ∙ turned_twice p
    ]

itself_of : (p : DirectedPiece) → is_of_piece p p ≡ true
itself_of p = or_left (is_same p p) (is_same p (reverse_of p)) (same_itself p)

reverse_is_of : (p : DirectedPiece) → is_of_piece p (reverse_of p) ≡ true
reverse_is_of p = or_right (is_same (reverse_of p) p) (is_same (reverse_of p) (reverse_of p)) (same_itself (reverse_of p))

of_reverse : (p : DirectedPiece) → is_of_piece (reverse_of p) p ≡ true
of_reverse p = or_right (is_same p (reverse_of p)) (is_same p (reverse_of (reverse_of p))) (ap (is_same p) (turned_twice p) ∙ same_itself p)

-- what a look-up gives that finds nothing
abbrev no_piece : DirectedPiece
no_piece = record { way = pos 0; run = 0; from = 0; to = 0; forward = true }

module _ (x : Extract) where
  forward_once : Once (forward_pieces x)
  forward_once = once_filter (λ p. p.forward) (directed_pieces x) (pieces_once x)

  turned_in : (p : DirectedPiece) → IsIn (directed_pieces x) p → IsIn (directed_pieces x) (reverse_of p)
  turned_in p h =
      let is : IsPiece x p = pieces_are x p h in
      in_directed x (reverse_of p) (record { rises = is.rises; inside = is.inside; begins = is.begins; ends = is.ends; plain = is.plain })

  -- each directed piece has its piece among those that run forward
  its_piece : (p : DirectedPiece) → IsIn (directed_pieces x) p → (q : DirectedPiece) × (IsIn (forward_pieces x) q × (is_of_piece p q ≡ true))
  its_piece p h = by p.forward refl
    where
      by : (b : Bool) → p.forward ≡ b → (q : DirectedPiece) × (IsIn (forward_pieces x) q × (is_of_piece p q ≡ true))
      by true up = (p, (in_filter (λ q. q.forward) (directed_pieces x) p h up, itself_of p))
      by false down = (reverse_of p, (in_filter (λ q. q.forward) (directed_pieces x) (reverse_of p) (turned_in p h) (ap not down), reverse_is_of p))

  -- ---- those of which one starts there

  module _ (starts : DirectedPiece → Bool) where
    -- the piece starts there, in some direction
    abbrev pub starts_either : DirectedPiece → Bool
    starts_either p = starts p || starts (reverse_of p)

    pub piece_starts : (p q : DirectedPiece) → starts p ≡ true → is_of_piece p q ≡ true → starts_either q ≡ true
    piece_starts p q on h =
        elim (or_cases (is_same q p) (is_same q (reverse_of p)) h) [
          | inl same ↦ or_left (starts q) (starts (reverse_of q)) (ap starts (same_only q p same) ∙ on)
          | inr turned ↦ or_right (starts q) (starts (reverse_of q)) (ap (λ d. starts (reverse_of d)) (same_only q (reverse_of p) turned) ∙ (ap starts (turned_twice p) ∙ on))
        ]

    abbrev there : List ℕ
    there = stops starts_either 0 (forward_pieces x)

    -- the place of a directed piece that starts there
    place_there : (p : DirectedPiece) → IsIn (directed_pieces x) p → starts p ≡ true → IsIn there (piece_place x p)
    place_there p listed on =
        let (q, (among, is)) = its_piece p listed in
        let first = first_is_place (is_of_piece p) (forward_pieces x) in
        let low = first_below (is_of_piece p) (forward_pieces x) q among is in
        let inside : piece_place x p < length (forward_pieces x) = omega (arith, first, low) in
        let at : DirectedPiece = get_or (forward_pieces x) (piece_place x p) no_piece in
        subst (IsIn there) {x = 0 + piece_place x p} {y = piece_place x p} (omega arith)
        (in_stops starts_either 0 (forward_pieces x) (piece_place x p) no_piece inside (piece_starts p at on (passes_at_first (is_of_piece p) (forward_pieces x) no_piece inside)))

    -- the place of a piece, by each directed piece that is of this piece alone
    place_of_piece : (j : ℕ) (p : DirectedPiece) → j < length (forward_pieces x) → is_of_piece p (get_or (forward_pieces x) j no_piece) ≡ true → ((q : DirectedPiece) → q.forward ≡ true → is_of_piece p q ≡ true → q ≡ get_or (forward_pieces x) j no_piece) → piece_place x p ≡ j
    place_of_piece j p inside is only =
        sym (first_is_place (is_of_piece p) (forward_pieces x))
        ∙ first_at (is_of_piece p) (forward_pieces x) j no_piece forward_once inside is
        (λ q h k. only q ((of_filter (λ d. d.forward) (directed_pieces x) q h).1) k)

    module _
        (edges : List DirectedPiece)
        (of_edges : (p : DirectedPiece) → IsIn edges p → IsIn (directed_pieces x) p × (starts p ≡ true))
        (in_edges : (p : DirectedPiece) → IsIn (directed_pieces x) p → starts p ≡ true → IsIn edges p) where
      there_back : (i : ℕ) → IsIn there i → IsIn (map (piece_place x) edges) i
      there_back i h =
          let (j, (is, (inside, passes))) = of_stops starts_either 0 (forward_pieces x) i h in
          let p : DirectedPiece = get_or (forward_pieces x) j no_piece in
          let (listed, up) = of_filter (λ d. d.forward) (directed_pieces x) p (in_at (forward_pieces x) j no_piece p inside refl) in
          let same : j ≡ i = omega (arith, is) in
          elim (or_cases (starts p) (starts (reverse_of p)) (passes no_piece)) [
            | inl on ↦ (
                let at : piece_place x p ≡ j = place_of_piece j p inside (itself_of p) (λ q on k. own_piece p q up on k) in
                subst (IsIn (map (piece_place x) edges)) (at ∙ same) (in_map (piece_place x) edges p (in_edges p listed on))
                )
            | inr back ↦ (
                let at : piece_place x (reverse_of p) ≡ j = place_of_piece j (reverse_of p) inside (of_reverse p) (λ q on k. turned_piece p q up on k) in
                subst (IsIn (map (piece_place x) edges)) (at ∙ same) (in_map (piece_place x) edges (reverse_of p) (in_edges (reverse_of p) (turned_in p listed) back))
                )
          ]

      -- the places of the pieces of these edges
      pub places_are : rising nat_lt (map (piece_place x) edges) ≡ there
      places_are =
          one_sorted nat_lt numbers_connected below_self below_on (rising nat_lt (map (piece_place x) edges)) there
          (rising_sorted nat_lt numbers_connected below_self below_on (map (piece_place x) edges)) (stops_sorted starts_either 0 (forward_pieces x))
          (λ i h. let (p, (inside, is)) = of_map (piece_place x) edges i (of_rising nat_lt numbers_connected (map (piece_place x) edges) i h) in
          let (listed, on) = of_edges p inside in
          subst (IsIn there) is (place_there p listed on))
          (λ i h. in_rising nat_lt numbers_connected (map (piece_place x) edges) i (there_back i h))

      -- .. and these pieces
      pub pieces_there : (f : DirectedPiece → Piece) → pieces_at (map f (forward_pieces x)) (rising nat_lt (map (piece_place x) edges)) ≡ map f (filter starts_either (forward_pieces x))
      pieces_there f = ap (pieces_at (map f (forward_pieces x))) places_are ∙ at_stops starts_either f (forward_pieces x)

      -- where the place of an edge's piece stands among the places
      pub place_in_places : (p : DirectedPiece) → IsIn edges p → position_or_len (nat_eq (piece_place x p)) (rising nat_lt (map (piece_place x) edges)) ≡ first_index (is_of_piece p) (filter starts_either (forward_pieces x))
      place_in_places p h =
          let (listed, on) = of_edges p h in
          ap (position_or_len (nat_eq (piece_place x p))) places_are ∙ place_among (is_of_piece p) starts_either (λ q is. piece_starts p q on is) (forward_pieces x)

      -- an edge's piece is one of these
      pub piece_inside : (p : DirectedPiece) → IsIn edges p → first_index (is_of_piece p) (filter starts_either (forward_pieces x)) < length (filter starts_either (forward_pieces x))
      piece_inside p h =
          let (listed, on) = of_edges p h in
          let (q, (among, is)) = its_piece p listed in
          first_below (is_of_piece p) (filter starts_either (forward_pieces x)) q (in_filter starts_either (forward_pieces x) q among (piece_starts p q on is)) is
