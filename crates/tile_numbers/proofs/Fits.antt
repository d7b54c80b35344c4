-- Numbers of records fit: indexes, local indexes, the parts of GraphIds.
use Rattle.std.proofs.Common.{◌≡◌, ◌∙◌, ℕ, ℤ, ◌<◌, ◌≤◌, sym, ap, subst, List, [], ◌∷◌, length, get_or, Bool, true, false, not, cond, ltb, Some, None, inl, inr, arith}
use Rattle.std.specs.Prelude.{All, unwrap_or, Result, Ok, IfOk}
use Rattle.std.specs.Option.{option_map}
use Rattle.std.specs.List.{position, position_or_len, find, slice_get}
use Rattle.std.proofs.lemmas.Int.{ints}
use Rattle.std.proofs.lemmas.Bool.{cases_lt}
use Rattle.std.proofs.lemmas.List.{get_or_default, get_or_past}
use Rattle.std.proofs.lemmas.List.Sums.{prefix_len-le-length}
use Rattle.std.proofs.lemmas.List.Folds.{find_at}
use Rattle.std.proofs.lemmas.Option.{slice_get-get_or, slice_get_past}
use Rattle.graph_id.specs.GraphId.{AreParts, value_of, invalid}
use Rattle.work_tile.specs.declared.edge_rows.WorkEdge.{WorkEdge}
use Rattle.work_tile.specs.WorkRows.{WorkNode, WorkRows}
use Rattle.tile_numbers.specs.declared.room.TheConstants.{MOST_RECORDS}
use Rattle.tile_numbers.specs.LookUps.{no_rows, no_work_node, has_tile_number, work_rows_at, node_index, work_node_at, runs_back, edges_at_end, opposing_index, opposing_local_index}
use Rattle.tile_numbers.specs.Limits.{IsRecordedEdge, IsRecordedNode, CanBeNumbered, TilesCanBeNumbered}

pub parts_fit : (level tile id : ℕ) → level ≤ 2 → tile < 4_194_304 → id ≤ MOST_RECORDS → AreParts level tile id
parts_fit level tile id l t i = record {
  level_fits = omega (arith, l);
  tile_fits = omega (arith, t);
  id_fits = omega (arith, i);
  valid = λ e. omega (arith, l, t, i, e);
}

-- the GraphId of such parts
pub id_fits : {E : Type 0} (r : Result ℕ E) (level tile id g : ℕ) → level ≤ 2 → tile < 4_194_304 → id ≤ MOST_RECORDS → IfOk r (λ v. v ≡ value_of level tile id) → r ≡ Ok g → g < invalid
id_fits r level tile id g l t i made is = let e : g ≡ value_of level tile id = subst (λ k. IfOk k (λ v. v ≡ value_of level tile id)) is made in omega (arith, e, l, t, i)

-- ---- the tile and the node of an end, found or not

no_rows_can : CanBeNumbered no_rows
no_rows_can = record {
  level = omega arith;
  tile = omega arith;
  room = record { nodes = omega arith; edges = omega arith };
  rise = λ i j d l h. absurd (omega (arith, h));
  each = λ k d h. absurd (omega (arith, h));
}

pub rows_can : (tiles : List WorkRows) (level tile : ℕ) → TilesCanBeNumbered tiles → CanBeNumbered (work_rows_at tiles level tile)
rows_can tiles level tile can = at (position_or_len (has_tile_number level tile) tiles)
  where
    at : (i : ℕ) → CanBeNumbered (get_or tiles i no_rows)
    at i = elim (cases_lt i (length tiles)) [
      | inl inside ↦ can.each i no_rows inside
      | inr past ↦ subst CanBeNumbered (sym (get_or_past tiles i no_rows past)) no_rows_can
    ]

pub node_within : (rows : WorkRows) (osm : ℤ) → node_index rows osm ≤ length rows.nodes
node_within rows osm = prefix_len-le-length _ rows.nodes

no_node_is_recorded : IsRecordedNode no_work_node
no_node_is_recorded = record { place = record { from_south = omega (arith, ints); to_north = omega (arith, ints); from_west = omega (arith, ints); to_east = omega (arith, ints) }; few = omega arith; each = λ k d h. absurd (omega (arith, h)) }

end_is_recorded : (rows : WorkRows) (e : WorkEdge) → CanBeNumbered rows → IsRecordedNode (get_or rows.nodes (node_index rows e.end) no_work_node)
end_is_recorded rows e can = elim (cases_lt (node_index rows e.end) (length rows.nodes)) [
  | inl inside ↦ can.each (node_index rows e.end) no_work_node inside
  | inr past ↦ subst IsRecordedNode (sym (get_or_past rows.nodes (node_index rows e.end) no_work_node past)) no_node_is_recorded
]

-- ---- the opposing edge

index_low : {X : Type 0} (p : X → Bool) (xs : List X) → unwrap_or (position p xs) 0 ≤ length xs
index_low p xs = by (ltb (position_or_len p xs) (length xs)) (prefix_len-le-length (λ x. not (p x)) xs)
  where
    by : (b : Bool) → position_or_len p xs ≤ length xs → unwrap_or (cond b (Some (position_or_len p xs)) None) 0 ≤ length xs
    by true low = low
    by false low = omega arith

pub opposing_low : (rows : WorkRows) (e : WorkEdge) → CanBeNumbered rows → opposing_index rows e ≤ 127
opposing_low rows e can = omega (arith, index_low (runs_back e.key) (edges_at_end rows e), (end_is_recorded rows e can).few)

local_low : (es : List WorkEdge) (i : ℕ) → All IsRecordedEdge es → unwrap_or (option_map (λ f. f.local) (slice_get es i)) 0 ≤ 127
local_low [] i all = omega (arith, ap (λ o. unwrap_or (option_map (λ (f : WorkEdge). f.local) o) 0) (slice_get_past [] i (omega arith)))
local_low (e ∷ es) i all = elim (cases_lt i (length (e ∷ es))) [
  | inl inside ↦ omega (arith, (all i e inside).local, ap (λ o. unwrap_or (option_map (λ (f : WorkEdge). f.local) o) 0) (slice_get-get_or (e ∷ es) i e inside))
  | inr past ↦ omega (arith, ap (λ o. unwrap_or (option_map (λ (f : WorkEdge). f.local) o) 0) (slice_get_past (e ∷ es) i past))
]

pub opposing_local_low : (rows : WorkRows) (e : WorkEdge) → CanBeNumbered rows → opposing_local_index rows e ≤ 127
opposing_local_low rows e can =
    let found = find_at (runs_back e.key) (edges_at_end rows e) in
    let low = local_low (edges_at_end rows e) (position_or_len (runs_back e.key) (edges_at_end rows e)) (end_is_recorded rows e can).each in
    omega (arith, low, ap (λ o. unwrap_or (option_map (λ (f : WorkEdge). f.local) o) 0) found)

-- ---- the node of an end

pub node_low : (rows : WorkRows) (osm : ℤ) → CanBeNumbered rows → node_index rows osm ≤ MOST_RECORDS
node_low rows osm can = omega (arith, node_within rows osm, can.room.nodes)

module _ (rows : WorkRows) (e : WorkEdge) where
  abbrev opposing_of : WorkNode → ℕ
  opposing_of n = unwrap_or (position (runs_back e.key) n.edges) 0

  abbrev local_of : WorkNode → ℕ
  local_of n = unwrap_or (option_map (λ f. f.local) (find (runs_back e.key) n.edges)) 0

  -- none is there
  absent : (p count : ℕ) → p ≡ node_index rows e.end → p ≡ count → count ≡ length rows.nodes → work_node_at rows e.end ≡ no_work_node
  absent p count is past many = get_or_past rows.nodes (node_index rows e.end) no_work_node (omega (arith, is, past, many))

  pub no_opposing : (p count : ℕ) → p ≡ node_index rows e.end → p ≡ count → count ≡ length rows.nodes → 0 ≡ opposing_index rows e
  no_opposing p count is past many = sym (ap opposing_of (absent p count is past many))

  pub no_local : (p count : ℕ) → p ≡ node_index rows e.end → p ≡ count → count ≡ length rows.nodes → 0 ≡ opposing_local_index rows e
  no_local p count is past many = sym (ap local_of (absent p count is past many))

  -- it is this one
  here_is : (p : ℕ) (n : WorkNode) → p ≡ node_index rows e.end → p < length rows.nodes → n ≡ get_or rows.nodes p n → n ≡ work_node_at rows e.end
  here_is p n is inside here = here ∙ get_or_default rows.nodes p n no_work_node inside ∙ ap (λ k. get_or rows.nodes k no_work_node) is

  pub opposing_is : (p : ℕ) (n : WorkNode) → p ≡ node_index rows e.end → p < length rows.nodes → n ≡ get_or rows.nodes p n → opposing_of n ≡ opposing_index rows e
  opposing_is p n is inside here = ap opposing_of (here_is p n is inside here)

  pub local_is : (p : ℕ) (n : WorkNode) → p ≡ node_index rows e.end → p < length rows.nodes → n ≡ get_or rows.nodes p n → local_of n ≡ opposing_local_index rows e
  local_is p n is inside here = ap local_of (here_is p n is inside here)
