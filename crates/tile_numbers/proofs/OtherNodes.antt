-- The other nodes of a junction: how many there are.
use Rattle.std.proofs.Common.{ℕ, zero, suc, ◌*◌, ◌≤◌, List, [], ◌∷◌, ◌++◌, length, Bool, true, false, cond, nat_lt, arith}
use Rattle.std.specs.List.{flat_map}
use Rattle.std.proofs.lemmas.List.{length-append}
use Rattle.graph_id.specs.GraphId.{value_of}
use Rattle.tile_geometry.specs.Grid.{grid_tile}
use Rattle.work_tile.specs.WorkRows.{WorkNode, WorkRows}
use Rattle.tile_numbers.specs.LookUps.{work_rows_at, node_index, node_on_level, other_nodes}

node_few : (b : Bool) (id : ℕ) → length (cond b (id ∷ []) []) ≤ 1
node_few true id = omega arith
node_few false id = omega arith

on_level_few : (tiles : List WorkRows) (level : ℕ) (n : WorkNode) → length (node_on_level tiles level n) ≤ 1
on_level_few tiles level n =
    let rows = work_rows_at tiles level (grid_tile level n.at) in
    node_few (nat_lt (node_index rows n.osm) (length rows.nodes)) (value_of level (grid_tile level n.at) (node_index rows n.osm))

both_few : (ks ls : List ℕ) → length ks ≤ 1 → length ls ≤ 1 → length (ks ++ (ls ++ [])) ≤ 2
both_few ks ls k l = omega (arith, k, l, length-append ks (ls ++ []), length-append ls [])

-- a junction has at most two other nodes
pub others_few : (tiles : List WorkRows) (level : ℕ) (n : WorkNode) → level ≤ 2 → length (other_nodes tiles level n) ≤ 2
unfolding other_nodes
others_few tiles zero n low = both_few (node_on_level tiles 1 n) (node_on_level tiles 2 n) (on_level_few tiles 1 n) (on_level_few tiles 2 n)
others_few tiles (suc zero) n low = both_few (node_on_level tiles 0 n) (node_on_level tiles 2 n) (on_level_few tiles 0 n) (on_level_few tiles 2 n)
others_few tiles (suc (suc zero)) n low = both_few (node_on_level tiles 0 n) (node_on_level tiles 1 n) (on_level_few tiles 0 n) (on_level_few tiles 1 n)
others_few tiles (suc (suc (suc k))) n low = absurd (omega (arith, low))

module _ (tiles : List WorkRows) (level : ℕ) where
  abbrev pub others_in : List WorkNode → List ℕ
  others_in nodes = flat_map (other_nodes tiles level) nodes

  pub all_few : level ≤ 2 → (nodes : List WorkNode) → length (others_in nodes) ≤ 2 * length nodes
  all_few low [] = omega arith
  all_few low (n ∷ ns) = omega (arith, length-append (other_nodes tiles level n) (others_in ns), others_few tiles level n low, all_few low ns)
