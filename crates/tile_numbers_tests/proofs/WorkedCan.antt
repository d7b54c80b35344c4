-- The worked tiles can be numbered.
use Rattle.std.proofs.Common.{◌≡◌, ℕ, zero, suc, ◌<◌, ◌≤◌, ℤ, pos, Bool, true, false, List, [], ◌∷◌, length, sym, subst, arith}
use Rattle.std.specs.Prelude.{◌<ℤ◌, slice_index}
use Rattle.std.proofs.lemmas.Int.{ints}
use Rattle.std.proofs.lemmas.List.Elements.{All-cons, All-nil}
use Rattle.std.proofs.lemmas.List.Kept.{AllPairs-cons}
use Rattle.fixed_geo.specs.Place.{IsPlace}
use Rattle.osm_model.specs.Extract.{IdsRise}
use Rattle.road_pieces.specs.declared.rows.Junction.{Junction}
use Rattle.work_tile.specs.declared.edge_rows.WorkEdge.{WorkEdge}
use Rattle.work_tile.specs.WorkRows.{WorkNode, WorkRows, work_node_with}
use Rattle.work_tile.specs.Places.{tile_number}
use Rattle.tile_numbers.specs.Limits.{IsRecordedEdge, IsRecordedNode, CanBeNumbered, TilesCanBeNumbered}
use Rattle.tile_numbers_tests.specs.Worked.{worked_edge, worked_junction, first_node, second_node, third_node, fifth_node, seventh_node, upper_node, ninth_node, upper_rows, first_rows, second_rows, third_rows, worked_tiles}

rise_three : (a b c : ℕ) → a < b → b < c → (i j : ℕ) → i < j → j < length (a ∷ b ∷ c ∷ []) → slice_index (a ∷ b ∷ c ∷ []) i < slice_index (a ∷ b ∷ c ∷ []) j
rise_three a b c h k i zero l m = absurd (omega (arith, l))
rise_three a b c h k zero (suc zero) l m = h
rise_three a b c h k zero (suc (suc zero)) l m = omega (arith, h, k)
rise_three a b c h k (suc zero) (suc zero) l m = absurd (omega (arith, l))
rise_three a b c h k (suc zero) (suc (suc zero)) l m = k
rise_three a b c h k (suc (suc i)) (suc zero) l m = absurd (omega (arith, l))
rise_three a b c h k (suc (suc i)) (suc (suc zero)) l m = absurd (omega (arith, l))
rise_three a b c h k i (suc (suc (suc j))) l m = absurd (omega (arith, m))

rise_four : (a b c d : ℕ) → a < b → b < c → c < d → (i j : ℕ) → i < j → j < length (a ∷ b ∷ c ∷ d ∷ []) → slice_index (a ∷ b ∷ c ∷ d ∷ []) i < slice_index (a ∷ b ∷ c ∷ d ∷ []) j
rise_four a b c d h k l i zero m n = absurd (omega (arith, m))
rise_four a b c d h k l zero (suc zero) m n = h
rise_four a b c d h k l zero (suc (suc zero)) m n = omega (arith, h, k)
rise_four a b c d h k l zero (suc (suc (suc zero))) m n = omega (arith, h, k, l)
rise_four a b c d h k l zero (suc (suc (suc (suc j)))) m n = absurd (omega (arith, n))
rise_four a b c d h k l (suc i) (suc j) m n = rise_three b c d k l i j (omega (arith, m)) (omega (arith, n))

place_can : (osm : ℤ) (lon : ℕ) → lon ≤ 65_535 → IsPlace (worked_junction osm (pos lon)).at
place_can osm lon h = record { from_south = omega (arith, ints); to_north = omega (arith, ints); from_west = omega (arith, ints); to_east = omega (arith, ints, h) }

edge_can : (way : ℤ) (forward : Bool) (end : ℤ) (end_tile local : ℕ) → end_tile < 4_194_304 → local ≤ 127 → IsRecordedEdge (worked_edge way forward end end_tile local)
edge_can way forward end end_tile local h k = record { end_tile = h; cm = omega arith; local = k; class = omega arith }

one_edge : (j : Junction) (e : WorkEdge) → IsPlace j.at → IsRecordedEdge e → IsRecordedNode (work_node_with j (e ∷ []))
one_edge j e p h = record { place = p; few = omega arith; each = All-cons IsRecordedEdge e [] h (All-nil IsRecordedEdge) }

two_edges : (j : Junction) (e f : WorkEdge) → IsPlace j.at → IsRecordedEdge e → IsRecordedEdge f → IsRecordedNode (work_node_with j (e ∷ f ∷ []))
two_edges j e f p h k = record { place = p; few = omega arith; each = All-cons IsRecordedEdge e (f ∷ []) h (All-cons IsRecordedEdge f [] k (All-nil IsRecordedEdge)) }

abbrev Lower : WorkNode → WorkNode → Type 0
Lower m n = m.osm <ℤ n.osm

one_rises : (n : WorkNode) → IdsRise (λ (k : WorkNode). k.osm) (n ∷ [])
one_rises n = λ i j d l m. absurd (omega (arith, l, m))

two_rise : (m n : WorkNode) → Lower m n → IdsRise (λ (k : WorkNode). k.osm) (m ∷ n ∷ [])
two_rise m n h = AllPairs-cons Lower m (n ∷ []) (All-cons (Lower m) n [] h (All-nil (Lower m))) (one_rises n)

upper_can : CanBeNumbered upper_rows
upper_can = record {
  level = omega arith;
  tile = omega arith;
  room = record { nodes = omega arith; edges = omega arith };
  rise = two_rise upper_node ninth_node (omega (arith, ints));
  each =
      All-cons IsRecordedNode upper_node (ninth_node ∷ []) (one_edge (worked_junction (pos 2) (pos 10_000)) (worked_edge (pos 40) true (pos 9) 2025 1) (place_can (pos 2) 10_000 (omega arith)) (edge_can _ _ _ _ _ (omega arith) (omega arith)))
      (All-cons IsRecordedNode ninth_node [] (one_edge (worked_junction (pos 9) (pos 60_000)) (worked_edge (pos 40) false (pos 2) 2025 0) (place_can (pos 9) 60_000 (omega arith)) (edge_can _ _ _ _ _ (omega arith) (omega arith)))
      (All-nil IsRecordedNode));
}

first_can : CanBeNumbered first_rows
first_can = record {
  level = omega arith;
  tile = omega arith;
  room = record { nodes = omega arith; edges = omega arith };
  rise = two_rise first_node second_node (omega (arith, ints));
  each =
      All-cons IsRecordedNode first_node (second_node ∷ []) (one_edge (worked_junction (pos 1) (pos 0)) (worked_edge (pos 10) true (pos 2) 519_120 0) (place_can (pos 1) 0 (omega arith)) (edge_can _ _ _ _ _ (omega arith) (omega arith)))
      (All-cons IsRecordedNode second_node [] (one_edge (worked_junction (pos 2) (pos 10_000)) (worked_edge (pos 10) false (pos 1) 519_120 0) (place_can (pos 2) 10_000 (omega arith)) (edge_can _ _ _ _ _ (omega arith) (omega arith)))
      (All-nil IsRecordedNode));
}

second_can : CanBeNumbered second_rows
second_can = record {
  level = omega arith;
  tile = omega arith;
  room = record { nodes = omega arith; edges = omega arith };
  rise = one_rises third_node;
  each =
      All-cons IsRecordedNode third_node [] (one_edge (worked_junction (pos 3) (pos 30_000)) (worked_edge (pos 20) true (pos 7) 519_122 0) (place_can (pos 3) 30_000 (omega arith)) (edge_can _ _ _ _ _ (omega arith) (omega arith)))
      (All-nil IsRecordedNode);
}

third_can : CanBeNumbered third_rows
third_can = record {
  level = omega arith;
  tile = omega arith;
  room = record { nodes = omega arith; edges = omega arith };
  rise = two_rise fifth_node seventh_node (omega (arith, ints));
  each =
      All-cons IsRecordedNode fifth_node (seventh_node ∷ []) (one_edge (worked_junction (pos 5) (pos 40_000)) (worked_edge (pos 30) true (pos 7) 519_122 0) (place_can (pos 5) 40_000 (omega arith)) (edge_can _ _ _ _ _ (omega arith) (omega arith)))
      (All-cons IsRecordedNode seventh_node []
      (two_edges (worked_junction (pos 7) (pos 50_000)) (worked_edge (pos 20) false (pos 3) 519_121 2) (worked_edge (pos 30) false (pos 5) 519_122 3) (place_can (pos 7) 50_000 (omega arith))
      (edge_can _ _ _ _ _ (omega arith) (omega arith)) (edge_can _ _ _ _ _ (omega arith) (omega arith)))
      (All-nil IsRecordedNode));
}

pub worked_can : TilesCanBeNumbered worked_tiles
unfolding worked_tiles
worked_can = record {
  rise = rise_four (tile_number 0 2025) (tile_number 2 519_120) (tile_number 2 519_121) (tile_number 2 519_122) (omega arith) (omega arith) (omega arith);
  each =
      All-cons CanBeNumbered upper_rows (first_rows ∷ second_rows ∷ third_rows ∷ []) upper_can
      (All-cons CanBeNumbered first_rows (second_rows ∷ third_rows ∷ []) first_can
      (All-cons CanBeNumbered second_rows (third_rows ∷ []) second_can (All-cons CanBeNumbered third_rows [] third_can (All-nil CanBeNumbered))));
}

pub tiles_can : (tiles : List WorkRows) → tiles ≡ worked_tiles → TilesCanBeNumbered tiles
tiles_can tiles is = subst TilesCanBeNumbered (sym is) worked_can
