-- Transitions pass, each by itself.
use Rattle.std.proofs.Common.{◌≡◌, ◌∙◌, ℕ, ◌≤◌, ap, List, [], ◌∷◌, ◌++◌, length, Bool, true, false, cond, not, nat_eq, nat_lt, ◌&&◌, arith, le-leb}
use Rattle.std.specs.Prelude.{◌==◌, All}
use Rattle.std.proofs.lemmas.List.Elements.{All-append, All-cons, All-nil, All-head, All-tail}
use Rattle.graph_id.specs.GraphId.{level_of, value_of}
use Rattle.tile_geometry.specs.Grid.{grid_tile}
use Rattle.section_grammar.specs.Reads.{AllGood}
use Rattle.tile_bytes.specs.declared.ids.LevelRule.TheVariants as rules
use Rattle.tile_bytes.specs.Items.{id_passes, IsId, IsValid}
use Rattle.work_tile.specs.WorkRows.{WorkNode, WorkRows}
use Rattle.tile_numbers.specs.LookUps.{work_rows_at, node_index, node_on_other, other_nodes}
use Rattle.tile_numbers.proofs.OtherNodes.{others_in}
use Rattle.tile_number_laws.specs.NumberedChecks.{TransitionsPass}
use Rattle.tile_number_laws.proofs.EdgesPass.{level_is}

module _ (level : ℕ) where
  abbrev Passes : ℕ → Type 0
  Passes id = id_passes (rules.Except level) [] id ≡ true

  all_good : (before ids : List ℕ) → All Passes ids → All IsValid ids → AllGood (IsId (rules.Except level)) before ids
  all_good before [] pass fit = tt
  all_good before (id ∷ ids) pass fit = (
    record { fits_so = All-head IsValid id ids fit; passes_so = All-head Passes id ids pass },
    all_good (before ++ id ∷ []) ids (All-tail Passes id ids pass) (All-tail IsValid id ids fit),
  )

  one : (other tile id : ℕ) → other ≤ 2 → nat_eq other level ≡ false → Passes (value_of other tile id)
  one other tile id low apart =
      let is : level_of (value_of other tile id) ≡ other = level_is other tile id low in
      let below = le-leb (level_of (value_of other tile id)) 2 (omega (arith, is, low)) in
      let elsewhere : (level_of (value_of other tile id) == level) ≡ false = ap (λ l. l == level) is ∙ apart in
      λ i. below i && not (elsewhere i)

  module _ (tiles : List WorkRows) where
    in_tile : (other tile index : ℕ) (b : Bool) → nat_eq other level ≡ b → (c : Bool) → other ≤ 2 → All Passes (cond b [] (cond c (value_of other tile index ∷ []) []))
    in_tile other tile index true same c low = All-nil Passes
    in_tile other tile index false apart true low = All-cons Passes (value_of other tile index) [] (one other tile index low apart) (All-nil Passes)
    in_tile other tile index false apart false low = All-nil Passes

    on_other : (n : WorkNode) (other : ℕ) → other ≤ 2 → All Passes (node_on_other tiles level n other)
    on_other n other low =
        let rows = work_rows_at tiles other (grid_tile other n.at) in
        in_tile other (grid_tile other n.at) (node_index rows n.osm) (nat_eq other level) (λ i. nat_eq other level) (nat_lt (node_index rows n.osm) (length rows.nodes)) low

    each : (n : WorkNode) → All Passes (other_nodes tiles level n)
    unfolding other_nodes
    each n =
        All-append Passes (node_on_other tiles level n 0) (node_on_other tiles level n 1 ++ (node_on_other tiles level n 2 ++ [])) (on_other n 0 (omega arith))
        (All-append Passes (node_on_other tiles level n 1) (node_on_other tiles level n 2 ++ []) (on_other n 1 (omega arith))
        (All-append Passes (node_on_other tiles level n 2) [] (on_other n 2 (omega arith)) (All-nil Passes)))

    all : (nodes : List WorkNode) → All Passes (others_in tiles level nodes)
    all [] = All-nil Passes
    all (n ∷ ns) = All-append Passes (other_nodes tiles level n) (others_in tiles level ns) (each n) (all ns)

pub others_pass : TransitionsPass
others_pass tiles rows fit = all_good rows.level [] (others_in tiles rows.level rows.nodes) (all rows.level tiles rows.nodes) fit
