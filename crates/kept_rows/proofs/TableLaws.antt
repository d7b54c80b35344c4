-- The laws: what is lifted are the rows of the folder, its table is a plain one, and what is kept can be lifted.
use Rattle.std.proofs.Common.{◌≡◌, ◌≤◌, ℕ, refl, sym, ◌∙◌, ap, subst, List, [], ◌∷◌, ◌++◌, map, arith}
use Rattle.std.specs.List.{All, flat_map}
use Rattle.std.proofs.lemmas.List.{map-append}
use Rattle.std.proofs.lemmas.List.Elements.{All-same, All-append, All-nil}
use Rattle.osm_model.specs.declared.extract.Extract.{Extract}
use Rattle.road_walks.specs.BaseEdges.{directed_pieces}
use Rattle.road_walks.specs.Stages.{KeepsStage, stage}
use Rattle.folder_spec.specs.Links.{base_link}
use Rattle.folder_spec.specs.Tables.{TileRows}
use Rattle.folder_spec.specs.Rows.{row_at, nodes_in, tiles_on, rows_of, rows_on}
use Rattle.access_filter.specs.Kept.{kept_tiles}
use Rattle.edge_builder.specs.ExtractRows.{node_tile, rows_of_stage}
use Rattle.edge_builder.specs.BaseStages.{BaseStage}
use Rattle.hierarchy.specs.Lifted.{tiles_of_level, lifted_tiles}
use Rattle.hierarchy.specs.Spots.{OwnNodes}
use Rattle.kept_rows.specs.KeptRows.{KeptOwnNodes, LiftedAreTable, OpenTableIsPlain, kept_of_extract, open_numbers, rows_of_table}
use Rattle.kept_rows.proofs.ListFacts.{all_values}
use Rattle.kept_rows.proofs.KeptStages.{folder_keeps, stage_keeps}
use Rattle.kept_rows.proofs.LiftedStages.{stage_own, stage_lifts}
use Rattle.kept_rows.proofs.OpenTables.{kept_pieces, edges_on, open_links_are, level_rows}

-- the levels
abbrev levels : List ℕ
levels = 0 ∷ (1 ∷ (2 ∷ []))

-- what is kept of the base tiles is the stage of the kept pieces
kept_rows_are : BaseStage → KeepsStage → (x : Extract) (asked : ℕ) → kept_of_extract x asked ≡ map (rows_of_stage x) (stage x (node_tile x) (kept_pieces x asked) 2)
kept_rows_are base keep x asked =
    ap (kept_tiles asked) (base x)
    ∙ (stage_keeps x asked (stage x (node_tile x) (directed_pieces x) 2)
    ∙ ap (map (rows_of_stage x)) (keep x (node_tile x) (folder_keeps x asked) (directed_pieces x) 2))

-- no junction has two nodes among the kept tiles
pub kept_own : BaseStage → KeepsStage → KeptOwnNodes
kept_own base keep x asked = subst OwnNodes (sym (kept_rows_are base keep x asked)) (stage_own x (kept_pieces x asked))

-- two ways from levels to lists that agree on each level
levels_agree : {A : Type 0} (f g : ℕ → List A) → f 0 ≡ g 0 → f 1 ≡ g 1 → f 2 ≡ g 2 → flat_map f levels ≡ flat_map g levels
levels_agree f g zero one two = λ i. zero i ++ (one i ++ (two i ++ []))

map_levels : {A B : Type 0} (h : A → B) (f : ℕ → List A) (ks : List ℕ) → map h (flat_map f ks) ≡ flat_map (λ k. map h (f k)) ks
map_levels h f [] = refl
map_levels h f (k ∷ ks) = map-append h (f k) (flat_map f ks) ∙ ap (λ l. map h (f k) ++ l) (map_levels h f ks)

module _ (x : Extract) (asked : ℕ) where
  level_is : (k : ℕ) → k ≤ 2 → tiles_of_level (map (rows_of_stage x) (stage x (node_tile x) (kept_pieces x asked) 2)) k ≡ map (rows_of_table x) (rows_on x asked open_numbers [] (node_tile x) k)
  level_is k low = stage_lifts x (kept_pieces x asked) k low ∙ sym (level_rows x asked k)

pub lifted_table : BaseStage → KeepsStage → LiftedAreTable
unfolding lifted_tiles
lifted_table base keep x asked =
    ap lifted_tiles (kept_rows_are base keep x asked)
    ∙ (levels_agree (tiles_of_level (map (rows_of_stage x) (stage x (node_tile x) (kept_pieces x asked) 2))) (λ k. map (rows_of_table x) (rows_on x asked open_numbers [] (node_tile x) k))
    (level_is x asked 0 (omega arith)) (level_is x asked 1 (omega arith)) (level_is x asked 2 (omega arith))
    ∙ sym (map_levels (rows_of_table x) (rows_on x asked open_numbers [] (node_tile x)) levels))

-- what holds of the rows of each tile of each level holds of all tiles
on_levels : (P : TileRows → Type 0) (f : ℕ → List TileRows) → ((k : ℕ) → All P (f k)) → (ks : List ℕ) → All P (flat_map f ks)
on_levels P f each [] = All-nil P
on_levels P f each (k ∷ ks) = All-append P (f k) (flat_map f ks) (each k) (on_levels P f each ks)

pub plain_table : OpenTableIsPlain
plain_table x asked = record {
  links = on_levels (λ rows. All (λ r. All (λ l. l.more ≡ []) r.links) rows.nodes) (rows_on x asked open_numbers [] (node_tile x))
      (λ k. all_values (λ rows. All (λ r. All (λ l. l.more ≡ []) r.links) rows.nodes) (rows_of x asked open_numbers [] (node_tile x) k)
      (λ c. all_values (λ r. All (λ l. l.more ≡ []) r.links) (row_at x asked open_numbers [] (node_tile x) k)
      (λ n. All-same (λ l. l.more ≡ []) _ _ (open_links_are x asked k n) (all_values (λ l. l.more ≡ []) base_link (λ p. refl) (edges_on x asked k n))) (nodes_in x asked open_numbers [] (node_tile x) k c))
      (tiles_on x asked open_numbers [] (node_tile x) k)) levels;
  sequences = refl;
}
