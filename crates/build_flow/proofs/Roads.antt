-- The limits that roads pass behind those of pieces.
use Rattle.std.proofs.Common.{◌≡◌, ℕ, ◌<◌, ◌≤◌, refl, sym, ap, subst, ◌∙◌, List, [], ◌∷◌, length, map, filter, Bool, true, false, cond, nat_lt, arith}
use Rattle.std.specs.Prelude.{All, Option, Some, None}
use Rattle.std.specs.Option.{option_map, option_or}
use Rattle.std.proofs.lemmas.List.Elements.{All-cons, All-nil, All-head, All-tail, All-append}
use Rattle.fixed_geo.specs.declared.points.Point.{Point}
use Rattle.tile_geometry.specs.Grid.{grid_tile}
use Rattle.road_pieces.specs.declared.rows.Junction.{Junction}
use Rattle.road_pieces.specs.declared.rows.Piece.{Piece}
use Rattle.road_walks.specs.Orders.{put_in, rising, not_none}
use Rattle.work_tile.specs.WorkRows.{WorkNode, WorkRows}
use Rattle.access_filter.specs.Kept.{kept_rows, kept_tiles}
use Rattle.hierarchy.specs.Lifted.{tile_over, lifted_nodes, lifted_tile, level_numbers, tiles_of_level, lifted_tiles}
use Rattle.edge_builder.specs.BaseRows.{crowded, junction_tile}
use Rattle.edge_builder.specs.BaseTiles.{base_tile, base_tiles_of}
use Rattle.folder_spec.proofs.TilesLow.{tiles_low}
use Rattle.tile_numbers.specs.declared.room.TileFull.{TileFull as FullTile}
use Rattle.tile_numbers.specs.Limits.{first_fullness}
use Rattle.build_flow.specs.declared.faults.LimitFault.{LimitFault}
use Rattle.build_flow.specs.FolderFiles.{first_given, too_full, too_long_section, some_limit, limit_of_base, tiles_limit, kept_of_roads, lifted_of_roads, tiles_of_roads, limit_of_roads}
use Rattle.build_flow.proofs.Full.{IsLowTile, limit_of_full, first_full_is}

-- ---- the tiles of roads have numbers that fit

abbrev IsLowNumber : ℕ → Type 0
IsLowNumber c = c < 4_194_304

low_put : (c : ℕ) (cs : List ℕ) → IsLowNumber c → All IsLowNumber cs → All IsLowNumber (put_in nat_lt c cs)
low_put c [] here there = All-cons IsLowNumber c [] here (All-nil IsLowNumber)
low_put c (d ∷ cs) here there = by (nat_lt c d) (nat_lt d c) (All-head IsLowNumber d cs there) (All-tail IsLowNumber d cs there) (low_put c cs here (All-tail IsLowNumber d cs there))
  where
    by : (p q : Bool) → IsLowNumber d → All IsLowNumber cs → All IsLowNumber (put_in nat_lt c cs) → All IsLowNumber (cond p (c ∷ (d ∷ cs)) (cond q (d ∷ put_in nat_lt c cs) (d ∷ cs)))
    by true q low rest put = All-cons IsLowNumber c (d ∷ cs) here there
    by false true low rest put = All-cons IsLowNumber d (put_in nat_lt c cs) low put
    by false false low rest put = there

low_rising : (cs : List ℕ) → All IsLowNumber cs → All IsLowNumber (rising nat_lt cs)
low_rising [] low = All-nil IsLowNumber
low_rising (c ∷ cs) low = low_put c (rising nat_lt cs) (All-head IsLowNumber c cs low) (low_rising cs (All-tail IsLowNumber c cs low))

low_junctions : (js : List Junction) → All IsLowNumber (map junction_tile js)
low_junctions [] = All-nil IsLowNumber
low_junctions (j ∷ js) = All-cons IsLowNumber (junction_tile j) (map junction_tile js) (tiles_low 2 j.at) (low_junctions js)

-- ---- and so have those over them

abbrev KeepsLow : ℕ → Type 0
KeepsLow k = (c : ℕ) → IsLowNumber c → IsLowNumber (tile_over k c)

low_over : (k : ℕ) → KeepsLow k → (test : WorkRows → Bool) (ts : List WorkRows) → All IsLowTile ts → All IsLowNumber (map (λ t. tile_over k t.tile) (filter test ts))
low_over k over test [] low = All-nil IsLowNumber
low_over k over test (t ∷ ts) low = by (test t) (over t.tile (All-head IsLowTile t ts low).tile) (low_over k over test ts (All-tail IsLowTile t ts low))
  where
    by : (b : Bool) → IsLowNumber (tile_over k t.tile) → All IsLowNumber (map (λ s. tile_over k s.tile) (filter test ts)) → All IsLowNumber (map (λ s. tile_over k s.tile) (cond b (t ∷ filter test ts) (filter test ts)))
    by true here rest = All-cons IsLowNumber (tile_over k t.tile) (map (λ s. tile_over k s.tile) (filter test ts)) here rest
    by false here rest = rest

low_tiles : (k : ℕ) → k ≤ 2 → (ts : List WorkRows) (cs : List ℕ) → All IsLowNumber cs → All IsLowTile (map (lifted_tile ts k) cs)
low_tiles k level ts [] low = All-nil IsLowTile
low_tiles k level ts (c ∷ cs) low =
    All-cons IsLowTile (lifted_tile ts k c) (map (lifted_tile ts k) cs) (record { level = level; tile = All-head IsLowNumber c cs low }) (low_tiles k level ts cs (All-tail IsLowNumber c cs low))

low_level : (k : ℕ) → k ≤ 2 → KeepsLow k → (ts : List WorkRows) → All IsLowTile ts → All IsLowTile (tiles_of_level ts k)
unfolding tiles_of_level
low_level k level over ts low =
    low_tiles k level ts (level_numbers ts k) (low_rising (map (λ t. tile_over k t.tile) (filter (λ t. not_none (lifted_nodes k t)) ts)) (low_over k over (λ t. not_none (lifted_nodes k t)) ts low))

low_lifted : (ts : List WorkRows) → All IsLowTile ts → All IsLowTile (lifted_tiles ts)
unfolding lifted_tiles
low_lifted ts low =
    All-append IsLowTile (tiles_of_level ts 0) _ (low_level 0 (omega arith) (λ c h. omega (arith, h)) ts low)
    (All-append IsLowTile (tiles_of_level ts 1) _ (low_level 1 (omega arith) (λ c h. omega (arith, h)) ts low)
    (All-append IsLowTile (tiles_of_level ts 2) [] (low_level 2 (omega arith) (λ c h. omega (arith, h)) ts low) (All-nil IsLowTile)))

module _ (asked : ℕ) (js : List Junction) (ps : List Piece) where
  low_kept : (cs : List ℕ) → All IsLowNumber cs → All IsLowTile (kept_tiles asked (map (base_tile js ps) cs))
  unfolding kept_tiles
  low_kept [] low = All-nil IsLowTile
  low_kept (c ∷ cs) low = by (nat_lt 0 (length (kept_rows asked (base_tile js ps c)).nodes)) (low_kept cs (All-tail IsLowNumber c cs low))
    where
      by : (b : Bool) → All IsLowTile (filter (λ (tile : WorkRows). nat_lt 0 (length tile.nodes)) (map (kept_rows asked) (map (base_tile js ps) cs)))
          → All IsLowTile (cond b (kept_rows asked (base_tile js ps c) ∷ filter (λ (tile : WorkRows). nat_lt 0 (length tile.nodes)) (map (kept_rows asked) (map (base_tile js ps) cs))) (filter (λ (tile : WorkRows). nat_lt 0 (length tile.nodes)) (map (kept_rows asked) (map (base_tile js ps) cs))))
      by true rest = All-cons IsLowTile (kept_rows asked (base_tile js ps c)) _ (record { level = omega arith; tile = All-head IsLowNumber c cs low }) rest
      by false rest = rest

  tiles_are_low : All IsLowTile (lifted_of_roads asked js ps)
  tiles_are_low = low_lifted (kept_of_roads asked js ps) (low_kept (rising nat_lt (map junction_tile js)) (low_rising (map junction_tile js) (low_junctions js)))

  -- ---- what is passed

  full_is : first_given too_full (tiles_of_roads asked js ps) ≡ option_map limit_of_full (first_fullness (lifted_of_roads asked js ps))
  full_is = first_full_is asked ps (lifted_of_roads asked js ps) (lifted_of_roads asked js ps) tiles_are_low

  not_crowded : crowded js ps ≡ None → limit_of_roads asked js ps ≡ tiles_limit (tiles_of_roads asked js ps)
  not_crowded none = ap (λ o. option_or (some_limit limit_of_base o) (tiles_limit (tiles_of_roads asked js ps))) none

  pub full_passed : (full : FullTile) → crowded js ps ≡ None → first_fullness (lifted_of_roads asked js ps) ≡ Some full → limit_of_roads asked js ps ≡ Some (limit_of_full full)
  full_passed full none first =
      not_crowded none ∙ ap (λ o. option_or o (first_given too_long_section (tiles_of_roads asked js ps))) (full_is ∙ ap (option_map limit_of_full) first)

  pub none_full : crowded js ps ≡ None → first_fullness (lifted_of_roads asked js ps) ≡ None → limit_of_roads asked js ps ≡ first_given too_long_section (tiles_of_roads asked js ps)
  none_full none first =
      not_crowded none ∙ ap (λ o. option_or o (first_given too_long_section (tiles_of_roads asked js ps))) (full_is ∙ ap (option_map limit_of_full) first)
