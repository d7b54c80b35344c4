-- What holds of each edge and each node of the tiles of an extract.
use Rattle.std.proofs.Common.{◌≡◌, ◌∙◌, ℕ, suc, ◌+◌, ◌*◌, ◌<◌, ◌≤◌, Bool, true, false, cond, not, ◌&&◌, refl, ap, List, [], ◌∷◌, length, map, ℤ, pos, negsuc, Option, Some, None, find, inl, inr, arith, eq-eqb}
use Rattle.std.specs.Prelude.{◌==◌, ◌≤ℤ◌, int_lt, nat_le, nat_lt, unwrap_or, option_map}
use Rattle.std.specs.List.{position_or_len}
use Rattle.std.specs.Option.{option_and_then}
use Rattle.std.proofs.lemmas.Int.{ints}
use Rattle.std.proofs.lemmas.Bool.{or_left, or_right, and_parts, leb-true, ltb-true, false_from_ne_true}
use Rattle.std.proofs.lemmas.List.{length-map}
use Rattle.std.proofs.lemmas.List.Sums.{prefix_len-le-length}
use Rattle.fixed_geo.specs.Place.{IsPlace}
use Rattle.fixed_geo.specs.declared.points.Point.{Point}
use Rattle.osm_model.specs.Tags.{value_of}
use Rattle.osm_model.specs.declared.tags.Tag.{Tag}
use Rattle.osm_model.specs.declared.extract.Extract.{Extract}
use Rattle.way_tags.specs.Highways.{HighwayRow, highways, highway_row}
use Rattle.way_tags.specs.Values.{has_value_among}
use Rattle.tile_geometry.specs.Grid.{tile_count, grid_tile}
use Rattle.tile_geometry.proofs.GridLaws.{grid_counted}
use Rattle.road_pieces.specs.DirectedPiece.{DirectedPiece}
use Rattle.road_pieces.specs.Rules.{class_of, way_tags}
use Rattle.road_pieces.specs.declared.limits.TheConstants.{LONGEST_PIECE_CM}
use Rattle.road_pieces.specs.Lengths.{point, piece_cm}
use Rattle.road_pieces.specs.Pieces.{IsPiece, piece_start, piece_end}
use Rattle.road_pieces.specs.Rows.{piece_rows}
use Rattle.road_pieces.proofs.Members.{IsIn}
use Rattle.road_walks.specs.BaseEdges.{directed_pieces, is_same, base_edges, reverse_of}
use Rattle.road_walks.proofs.Locals.{in_filter, in_directed, same_itself}
use Rattle.tile_bytes.specs.Items.{is_between, lies_in}
use Rattle.edge_builder.specs.ExtractRows.{forward_pieces, is_of_piece, piece_place, piece_of_extract, node_tile, edge_of_extract}
use Rattle.tile_numbers.specs.Limits.{IsRecordedEdge}
use Rattle.kept_checks.proofs.PieceEntries.{placed_at}

-- ---- classes are below 8

all_low : List HighwayRow → Bool
all_low [] = true
all_low (r ∷ rs) = nat_le r.class 7 && all_low rs

found_low : (test : HighwayRow → Bool) (rs : List HighwayRow) → all_low rs ≡ true → unwrap_or (option_map (λ r. r.class) (find test rs)) 7 ≤ 7
unfolding all_low
found_low test [] h = omega arith
found_low test (r ∷ rs) h = by (test r) (found_low test rs (and_parts (nat_le r.class 7) (all_low rs) h).1)
  where
    by : (b : Bool) → unwrap_or (option_map (λ s. s.class) (find test rs)) 7 ≤ 7 → unwrap_or (option_map (λ s. s.class) (cond b (Some r) (find test rs))) 7 ≤ 7
    by true rest = leb-true r.class 7 (and_parts (nat_le r.class 7) (all_low rs) h).0
    by false rest = rest

highways_low : all_low highways ≡ true
unfolding all_low
highways_low = refl

class_low : (tags : List Tag) → class_of tags ≤ 7
unfolding class_of
class_low tags = by (has_value_among tags (Rattle.std.specs.Prelude.codes "area") (Rattle.std.specs.Prelude.codes "yes" ∷ [])) (value_of (Rattle.std.specs.Prelude.codes "highway") tags)
  where
    by : (b : Bool) (o : Option (List ℕ)) → unwrap_or (option_map (λ r. r.class) (cond b None (option_and_then highway_row o))) 7 ≤ 7
    by true o = omega arith
    by false None = omega arith
    by false (Some value) = found_low (λ r. Rattle.way_tags.specs.Values.is_among r.values value) highways highways_low

-- ---- places

not_below : (a b : ℤ) → a ≤ℤ b → int_lt b a ≡ false
not_below (pos a) (pos b) h = false_from_ne_true (nat_lt b a) (λ e. let k = ltb-true b a e in omega (arith, ints, h, k))
not_below (pos a) (negsuc b) h = absurd (omega (arith, ints, h))
not_below (negsuc a) (pos b) h = refl
not_below (negsuc a) (negsuc b) h = false_from_ne_true (nat_lt a b) (λ e. let k = ltb-true a b e in omega (arith, ints, h, k))

between : (from to n : ℤ) → from ≤ℤ n → n ≤ℤ to → is_between from to n ≡ true
between from to n a b = let c = not_below from n a in let d = not_below n to b in λ i. not (c i) && not (d i)

pub place_lies : (level tile : ℕ) (p : Point) → IsPlace p → grid_tile level p ≡ tile → lies_in level tile p ≡ true
place_lies level tile p place is =
    let a = between _ _ p.lat place.from_south place.to_north in
    let b = between _ _ p.lon place.from_west place.to_east in
    let c = eq-eqb (grid_tile level p) tile is in
    λ i. a i && b i && c i

-- ---- edges

-- what is known of an extract whose roads pass no limit
pub record AreToldSo (x : Extract) : Type 0 where
  pub few : (n : ℤ) → length (base_edges x n) ≤ 127
  pub short : (p : DirectedPiece) → IsPiece x p → piece_cm x p ≤ LONGEST_PIECE_CM
  pub forward : piece_rows x ≡ map (piece_of_extract x) (forward_pieces x)

-- no level has more tiles than level 2
pub counted_low : (k : ℕ) → tile_count k ≤ 1_036_800
counted_low k = by (k == 0) (k == 1)
  where
    by : (a b : Bool) → (cond a 90 (cond b 360 1440) * cond a 45 (cond b 180 720)) ≤ 1_036_800
    by true b = omega arith
    by false true = omega arith
    by false false = omega arith

position_in : {A : Type 0} (test : A → Bool) (xs : List A) (x : A) → IsIn xs x → test x ≡ true → position_or_len test xs < length xs
position_in test [] x h passes = absurd h
position_in test (y ∷ xs) x (inl is) passes =
    let first = ap (λ b. cond (not b) (1 + position_or_len test xs) 0) (ap test is ∙ passes) in
    omega (arith, first)
position_in test (y ∷ xs) x (inr h) passes = by (test y) (position_in test xs x h passes)
  where
    by : (b : Bool) → position_or_len test xs < length xs → cond (not b) (1 + position_or_len test xs) 0 < suc (length xs)
    by true l = omega arith
    by false l = omega (arith, l)

module _ (x : Extract) (told : AreToldSo x) where
  pub tile_below : (k : ℕ) (n : ℤ) → node_tile x k n < tile_count k
  tile_below k n = grid_counted k (point x.nodes n) (placed_at x.nodes n x.placed)

  turned : (p : DirectedPiece) → IsPiece x p → IsPiece x (reverse_of p)
  turned p h = record { rises = h.rises; inside = h.inside; begins = h.begins; ends = h.ends; plain = h.plain }

  in_forward : (p : DirectedPiece) → IsPiece x p → p.forward ≡ true → IsIn (forward_pieces x) p
  in_forward p piece ahead = in_filter (λ q. q.forward) (directed_pieces x) p (in_directed x p piece) ahead

  place_low : (p : DirectedPiece) → IsPiece x p → piece_place x p < length (forward_pieces x)
  place_low p piece = by p.forward refl
    where
      by : (b : Bool) → p.forward ≡ b → position_or_len (is_of_piece p) (forward_pieces x) < length (forward_pieces x)
      by true e = position_in (is_of_piece p) (forward_pieces x) p (in_forward p piece e) (or_left (is_same p p) (is_same p (reverse_of p)) (same_itself p))
      by false e = position_in (is_of_piece p) (forward_pieces x) (reverse_of p) (in_forward (reverse_of p) (turned p piece) (ap not e))
          (or_right (is_same (reverse_of p) p) (is_same (reverse_of p) (reverse_of p)) (same_itself (reverse_of p)))

  pub place_inside : (p : DirectedPiece) → IsPiece x p → piece_place x p < length (piece_rows x)
  place_inside p piece = omega (arith, place_low p piece, ap length told.forward, length-map (forward_pieces x) (piece_of_extract x))

  pub edge_recorded : (k : ℕ) (p : DirectedPiece) → IsPiece x p → IsRecordedEdge (edge_of_extract x k p)
  edge_recorded k p piece = record {
    end_tile = let low = tile_below k (piece_end x p) in omega (arith, low, counted_low k);
    cm = told.short p piece;
    local = omega (arith, prefix_len-le-length (λ q. not (is_same p q)) (base_edges x (piece_start x p)), told.few (piece_start x p));
    class = class_low (way_tags x p.way);
  }
