-- Tiles that have more than GraphIds number.
use Rattle.std.proofs.Common.{◌≡◌, ℕ, suc, ◌+◌, ◌<◌, ◌≤◌, refl, sym, ap, ◌∙◌, List, [], ◌∷◌, length, map, get_or, Bool, true, false, cond, nat_lt, arith}
use Rattle.std.specs.Prelude.{All, Option, Some, None}
use Rattle.std.specs.Option.{option_map, option_or}
use Rattle.std.proofs.lemmas.List.{length-map}
use Rattle.std.proofs.lemmas.List.Concat.{length-flat_map}
use Rattle.std.proofs.lemmas.List.Elements.{All-head, All-tail}
use Rattle.graph_id.specs.GraphId.{level_of, tile_of_id, value_of}
use Rattle.road_pieces.specs.declared.rows.Piece.{Piece}
use Rattle.tile_bytes.specs.declared.tile.Tile.{Tile}
use Rattle.work_tile.specs.declared.edge_rows.WorkEdge.{WorkEdge}
use Rattle.work_tile.specs.WorkRows.{WorkNode, WorkRows}
use Rattle.tile_numbers.specs.declared.room.TheConstants.{MOST_RECORDS}
use Rattle.tile_numbers.specs.declared.room.TileFull.{TileFull as FullTile}
use Rattle.tile_numbers.specs.declared.room.What.TheVariants as kinds
use Rattle.tile_numbers.specs.LookUps.{other_nodes}
use Rattle.tile_numbers.specs.Limits.{edge_total, fullness, first_fullness}
use Rattle.tile_numbers.specs.Records.{numbered_nodes, numbered_edges, edges_of_rows, node_records_of, edge_records_of}
use Rattle.tile_finish.specs.FinishedTiles.{finished_tile, entry_offset}
use Rattle.build_flow.specs.declared.faults.LimitFault.{LimitFault}
use Rattle.build_flow.specs.declared.faults.LimitFault.TheVariants.{TileFull}
use Rattle.build_flow.specs.FolderFiles.{first_given, too_full, finished_tiles}

-- the limit of a full tile
abbrev pub limit_of_full : FullTile → LimitFault
limit_of_full full = TileFull full.level full.tile full.what full.count

-- a tile's level and number can be read from its GraphId
pub record IsLowTile (rows : WorkRows) : Type 0 where
  pub level : rows.level ≤ 2
  pub tile : rows.tile < 4_194_304

level_back : (level tile : ℕ) → level ≤ 2 → level_of (value_of level tile 0) ≡ level
level_back level tile l = omega (arith, l)

tile_back : (level tile : ℕ) → level ≤ 2 → tile < 4_194_304 → tile_of_id (value_of level tile 0) ≡ tile
tile_back level tile l t = omega (arith, l, t)

-- ---- how many records there are

nodes_many : (tiles : List WorkRows) (level edges transitions : ℕ) (nodes : List WorkNode) → length (numbered_nodes tiles level edges transitions nodes) ≡ length nodes
nodes_many tiles level edges transitions [] = refl
nodes_many tiles level edges transitions (n ∷ ns) = ap suc (nodes_many tiles level (edges + length n.edges) (transitions + length (other_nodes tiles level n)) ns)

edges_many : (tiles : List WorkRows) (level tile : ℕ) (es : List WorkEdge) (offset : WorkEdge → ℕ) → length (numbered_edges tiles level tile es (map offset es)) ≡ length es
unfolding numbered_edges
edges_many tiles level tile [] offset = refl
edges_many tiles level tile (e ∷ es) offset = ap suc (edges_many tiles level tile es offset)

-- ---- which tile is full

full_by : ℕ → ℕ → ℕ → ℕ → Option LimitFault
full_by level tile nodes edges =
    cond (nat_lt MOST_RECORDS nodes) (Some (TileFull level tile kinds.Nodes nodes)) (cond (nat_lt MOST_RECORDS edges) (Some (TileFull level tile kinds.Edges edges)) None)

mapped : (p q : Bool) (f g : FullTile) → option_map limit_of_full (cond p (Some f) (cond q (Some g) None)) ≡ cond p (Some (limit_of_full f)) (cond q (Some (limit_of_full g)) None)
mapped true q f g = refl
mapped false true f g = refl
mapped false false f g = refl

one_full : (asked : ℕ) (pieces : List Piece) (tiles : List WorkRows) (rows : WorkRows) → IsLowTile rows → too_full (finished_tile asked pieces tiles rows) ≡ option_map limit_of_full (fullness rows)
unfolding full_by
one_full asked pieces tiles rows low =
    let level = level_back rows.level rows.tile low.level in
    let tile = tile_back rows.level rows.tile low.level low.tile in
    let nodes = nodes_many tiles rows.level 0 0 rows.nodes in
    let edges : length (edge_records_of tiles rows (map (entry_offset pieces rows) (edges_of_rows rows))) ≡ edge_total rows = edges_many tiles rows.level rows.tile (edges_of_rows rows) (entry_offset pieces rows) ∙ length-flat_map (λ (n : WorkNode). n.edges) rows.nodes in
    let same : too_full (finished_tile asked pieces tiles rows) ≡ full_by rows.level rows.tile (length rows.nodes) (edge_total rows) = λ i. full_by (level i) (tile i) (nodes i) (edges i) in
    same ∙ sym (mapped (nat_lt MOST_RECORDS (length rows.nodes)) (nat_lt MOST_RECORDS (edge_total rows)) _ _)

-- the first of them
pub first_full_is : (asked : ℕ) (pieces : List Piece) (tiles here : List WorkRows) → All IsLowTile here → first_given too_full (map (finished_tile asked pieces tiles) here) ≡ option_map limit_of_full (first_fullness here)
first_full_is asked pieces tiles [] low = refl
first_full_is asked pieces tiles (t ∷ ts) low =
    ap (λ o. option_or o (first_given too_full (map (finished_tile asked pieces tiles) ts))) (one_full asked pieces tiles t (All-head IsLowTile t ts low))
    ∙ ap (option_or (option_map limit_of_full (fullness t))) (first_full_is asked pieces tiles ts (All-tail IsLowTile t ts low))
    ∙ sym (pushed (fullness t) (first_fullness ts))
  where
    pushed : (a b : Option FullTile) → option_map limit_of_full (option_or a b) ≡ option_or (option_map limit_of_full a) (option_map limit_of_full b)
    pushed None b = refl
    pushed (Some f) b = refl
