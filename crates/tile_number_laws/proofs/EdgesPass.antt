-- Edges pass, each by itself.
use Rattle.std.proofs.Common.{◌≡◌, ◌∙◌, ℕ, ◌≤◌, refl, sym, List, [], ◌∷◌, ◌++◌, length, true, ◌&&◌, eq-eqb, arith}
use Rattle.std.specs.Prelude.{All}
use Rattle.std.proofs.lemmas.List.Concat.{length-flat_map}
use Rattle.std.proofs.lemmas.List.Elements.{All-cons, All-nil, All-head, All-tail}
use Rattle.graph_id.specs.GraphId.{level_of, value_of}
use Rattle.tile_geometry.specs.Grid.{class_level}
use Rattle.tile_records.specs.Edges.{EdgeFields, EdgeFits}
use Rattle.section_grammar.specs.Reads.{AllGood}
use Rattle.tile_bytes.specs.Items.{edge_passes, IsEdgeRecord}
use Rattle.work_tile.specs.declared.edge_rows.WorkEdge.{WorkEdge}
use Rattle.work_tile.specs.WorkRows.{WorkNode, WorkRows}
use Rattle.tile_numbers.specs.LookUps.{work_rows_at, node_index}
use Rattle.tile_numbers.specs.Records.{numbered_edge, numbered_edges, edges_of_rows}
use Rattle.tile_numbers.proofs.OtherNodes.{all_few}
use Rattle.tile_number_laws.specs.NumberedChecks.{NumberedEdgesPass, NumberedCountsAgree}
use Rattle.tile_number_laws.proofs.NodesPass.{edges_counted, transitions_counted, nodes_counted}

pub level_is : (level tile id : ℕ) → level ≤ 2 → level_of (value_of level tile id) ≡ level
level_is level tile id l = omega (arith, l)

all_good : (level : ℕ) (before es : List EdgeFields) → All (λ e. edge_passes level [] e ≡ true) es → All EdgeFits es → AllGood (IsEdgeRecord level) before es
all_good level before [] pass fit = tt
all_good level before (e ∷ es) pass fit = (
  record { fits_so = All-head EdgeFits e es fit; passes_so = All-head (λ f. edge_passes level [] f ≡ true) e es pass },
  all_good level (before ++ e ∷ []) es (All-tail (λ f. edge_passes level [] f ≡ true) e es pass) (All-tail EdgeFits e es fit),
)

module _ (tiles : List WorkRows) (level tile : ℕ) (low : level ≤ 2) where
  abbrev row : WorkEdge → ℕ → EdgeFields
  row e info = numbered_edge level tile (work_rows_at tiles level e.end_tile) e info

  abbrev Passes : EdgeFields → Type 0
  Passes e = edge_passes level [] e ≡ true

  abbrev OnLevel : WorkEdge → Type 0
  OnLevel e = class_level e.class ≡ level

  one : (e : WorkEdge) (info : ℕ) → OnLevel e → Passes (row e info)
  one e info on =
      let a = eq-eqb (level_of (value_of level e.end_tile (node_index (work_rows_at tiles level e.end_tile) e.end))) level (level_is level e.end_tile (node_index (work_rows_at tiles level e.end_tile) e.end) low) in
      let b = eq-eqb (class_level e.class) level on in
      λ i. a i && b i && true

  all_pass : (es : List WorkEdge) (offsets : List ℕ) → All OnLevel es → All Passes (numbered_edges tiles level tile es offsets)
  unfolding numbered_edges
  all_pass [] offsets on = All-nil Passes
  all_pass (e ∷ es) [] on = All-nil Passes
  all_pass (e ∷ es) (o ∷ os) on = All-cons Passes (row e o) (numbered_edges tiles level tile es os) (one e o (All-head OnLevel e es on)) (all_pass es os (All-tail OnLevel e es on))

pub edges_pass : NumberedEdgesPass
edges_pass tiles rows offsets low on fit = all_good rows.level [] (numbered_edges tiles rows.level rows.tile (edges_of_rows rows) offsets) (all_pass tiles rows.level rows.tile low (edges_of_rows rows) offsets on) fit

many : (tiles : List WorkRows) (level tile : ℕ) (es : List WorkEdge) (offsets : List ℕ) → length offsets ≡ length es → length (numbered_edges tiles level tile es offsets) ≡ length es
unfolding numbered_edges
many tiles level tile [] offsets same = refl
many tiles level tile (e ∷ es) [] same = absurd (omega arith)
many tiles level tile (e ∷ es) (o ∷ os) same = let k = many tiles level tile es os (omega (arith, same)) in omega (arith, k)

pub counts_agree : NumberedCountsAgree
counts_agree tiles rows offsets low same = record {
  edges = edges_counted tiles rows.level 0 0 rows.nodes ∙ sym (length-flat_map (λ (n : WorkNode). n.edges) rows.nodes) ∙ sym (many tiles rows.level rows.tile (edges_of_rows rows) offsets same);
  transitions = transitions_counted tiles rows.level 0 0 rows.nodes;
  few_transitions = omega (arith, all_few tiles rows.level low rows.nodes, nodes_counted tiles rows.level 0 0 rows.nodes);
}
