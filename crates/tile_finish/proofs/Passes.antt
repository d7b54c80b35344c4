-- A tile that is finished passes the checks of a tile file.
use Rattle.std.proofs.Common.{◌≡◌, ◌∙◌, ℕ, ◌+◌, ◌<◌, ◌≤◌, ◌&&◌, true, refl, sym, subst, List, [], ◌∷◌, length, get_or, map, eq-eqb, arith}
use Rattle.std.specs.Prelude.{All, nat_eq}
use Rattle.std.specs.List.{position_or_len}
use Rattle.std.proofs.lemmas.Bool.{lt-ltb, le-leb}
use Rattle.std.proofs.lemmas.List.{length-map, get_or-map}
use Rattle.std.proofs.lemmas.List.Concat.{length-flat_map}
use Rattle.std.proofs.lemmas.List.Elements.{All-nil, All-cons, All-head, All-tail}
use Rattle.road_pieces.specs.declared.rows.Piece.{Piece}
use Rattle.road_pieces.proofs.Members.{IsIn, in_at}
use Rattle.graph_id.specs.GraphId.{level_of, tile_of_id, id_of, value_of, invalid}
use Rattle.tile_geometry.specs.Grid.{tile_count}
use Rattle.tile_records.specs.Nodes.{NodeFits}
use Rattle.tile_records.specs.Edges.{EdgeFields, EdgeFits}
use Rattle.section_grammar.specs.Reads.{AllGood}
use Rattle.edge_info.specs.Entries.{InfosPass, names_of, starts_of, starts_at}
use Rattle.edge_info.specs.Texts.{TextsPass}
use Rattle.tile_bytes.specs.Header.{names_tile, are_modes}
use Rattle.tile_bytes.specs.declared.ids.LevelRule.TheVariants as rules
use Rattle.tile_bytes.specs.Items.{IsNodeRecord, IsEdgeRecord, IsId, IsValid}
use Rattle.tile_bytes.specs.Chains.{named_chains}
use Rattle.tile_bytes.specs.Tiles.{has_entry, PassesChecks}
use Rattle.work_tile.specs.declared.edge_rows.WorkEdge.{WorkEdge}
use Rattle.work_tile.specs.WorkRows.{WorkNode, WorkRows}
use Rattle.tile_infos.specs.TileTexts.{texts_of_pieces}
use Rattle.tile_infos.specs.TileEntries.{entry_of_piece}
use Rattle.tile_numbers.specs.LookUps.{work_rows_at, other_nodes}
use Rattle.tile_numbers.specs.Limits.{CanBeNumbered}
use Rattle.tile_numbers.specs.Records.{numbered_nodes, numbered_edge, numbered_edges, edges_of_rows, node_records_of, edge_records_of, transitions_of_rows}
use Rattle.tile_number_laws.specs.NumberedChecks.{NumberedNodesPass, NumberedEdgesPass, TransitionsPass, NumberedCountsAgree}
use Rattle.tile_finish.specs.FinishedTiles.{piece_places, pieces_of_rows, entries_of_rows, texts_of_rows, entry_offset, finished_tile, CanBeFinished}
use Rattle.tile_finish.proofs.PlaceLemmas.{stands_inside}
use Rattle.tile_finish.proofs.SizeLemmas.{starts_many, starts_have}

-- ---- the id

module _ (level tile : ℕ) (low : level ≤ 2) (small : tile < 4_194_304) where
  id_level : level_of (value_of level tile 0) ≡ level
  id_level = omega (arith, low)

  id_tile : tile_of_id (value_of level tile 0) ≡ tile
  id_tile = omega (arith, low, small)

  id_first : id_of (value_of level tile 0) ≡ 0
  id_first = omega (arith, low, small)

  names : tile < tile_count level → names_tile (value_of level tile 0) ≡ true
  names there =
      let a = lt-ltb (value_of level tile 0) invalid (omega (arith, low, small)) in
      let b = le-leb (level_of (value_of level tile 0)) 2 (omega (arith, id_level, low)) in
      let c = lt-ltb (tile_of_id (value_of level tile 0)) (tile_count (level_of (value_of level tile 0))) (subst (λ l. tile_of_id (value_of level tile 0) < tile_count l) (sym id_level) (subst (λ t. t < tile_count level) (sym id_tile) there)) in
      let d = eq-eqb (id_of (value_of level tile 0)) 0 id_first in
      λ i. a i && b i && c i && d i

-- ---- the numbers of records

nodes_many : (tiles : List WorkRows) (level edges transitions : ℕ) (nodes : List WorkNode) → length (numbered_nodes tiles level edges transitions nodes) ≡ length nodes
nodes_many tiles level edges transitions [] = refl
nodes_many tiles level edges transitions (n ∷ ns) =
    let rest = nodes_many tiles level (edges + length n.edges) (transitions + length (other_nodes tiles level n)) ns in
    omega (arith, rest)

module _ (tiles : List WorkRows) (level tile : ℕ) where
  edges_many : (es : List WorkEdge) (offsets : List ℕ) → length offsets ≡ length es → length (numbered_edges tiles level tile es offsets) ≡ length es
  unfolding numbered_edges
  edges_many [] offsets same = refl
  edges_many (e ∷ es) [] same = absurd (omega (arith, same))
  edges_many (e ∷ es) (o ∷ os) same = let rest = edges_many es os (omega (arith, same)) in omega (arith, rest)

  -- there is no shortcut yet
  no_chains : (es : List WorkEdge) (offsets : List ℕ) → named_chains (numbered_edges tiles level tile es offsets) ≡ []
  unfolding numbered_edges
  no_chains [] offsets = refl
  no_chains (e ∷ es) [] = refl
  no_chains (e ∷ es) (o ∷ os) = no_chains es os

  -- an edge has an entry where its offset is one of the starts
  all_have : (starts : List ℕ) (offset : WorkEdge → ℕ) (es : List WorkEdge) → All (λ e. starts_at starts (offset e) ≡ true) es
      → All (λ r. has_entry starts r ≡ true) (numbered_edges tiles level tile es (map offset es))
  unfolding numbered_edges
  all_have starts offset [] have = All-nil (λ (r : EdgeFields). has_entry starts r ≡ true)
  all_have starts offset (e ∷ es) have =
      All-cons (λ (r : EdgeFields). has_entry starts r ≡ true) (numbered_edge level tile (work_rows_at tiles level e.end_tile) e (offset e)) (numbered_edges tiles level tile es (map offset es))
      (All-head (λ (f : WorkEdge). starts_at starts (offset f) ≡ true) e es have)
      (all_have starts offset es (All-tail (λ (f : WorkEdge). starts_at starts (offset f) ≡ true) e es have))

-- ---- the entries

pub starts_as_places : (pieces : List Piece) (rows : WorkRows) → length (pieces_of_rows pieces rows) ≡ length (piece_places rows) → length (starts_of (entries_of_rows pieces rows)) ≡ length (piece_places rows)
starts_as_places pieces rows same =
    starts_many 0 (entries_of_rows pieces rows) ∙ length-map (pieces_of_rows pieces rows) (entry_of_piece (texts_of_pieces (pieces_of_rows pieces rows))) ∙ same

offsets_start : (pieces : List Piece) (rows : WorkRows) → length (pieces_of_rows pieces rows) ≡ length (piece_places rows)
    → All (λ e. starts_at (starts_of (entries_of_rows pieces rows)) (entry_offset pieces rows e) ≡ true) (edges_of_rows rows)
offsets_start pieces rows same = λ k d inside.
    let es = edges_of_rows rows in
    let place = λ (e : WorkEdge). e.place in
    let e = get_or es k d in
    let there : IsIn (map place es) e.place = in_at (map place es) k d.place e.place (omega (arith, inside, length-map es place)) (get_or-map place es k d d.place inside) in
    let at : position_or_len (nat_eq e.place) (piece_places rows) < length (starts_of (entries_of_rows pieces rows)) = omega (arith, stands_inside (map place es) e.place there, starts_as_places pieces rows same) in
    starts_have (starts_of (entries_of_rows pieces rows)) (position_or_len (nat_eq e.place) (piece_places rows)) at

-- ---- the tile

module _ (nodes_law : NumberedNodesPass) (edges_law : NumberedEdgesPass) (others_law : TransitionsPass) (counts_law : NumberedCountsAgree) (modes : ℕ) (pieces : List Piece) (tiles : List WorkRows) (rows : WorkRows) where
  abbrev offsets : List ℕ
  offsets = map (entry_offset pieces rows) (edges_of_rows rows)

  pub finished_passes : are_modes modes ≡ true → CanBeNumbered rows → CanBeFinished (length pieces) rows → length (pieces_of_rows pieces rows) ≡ length (piece_places rows)
      → InfosPass (length (texts_of_rows pieces rows)) (entries_of_rows pieces rows) → TextsPass (names_of (entries_of_rows pieces rows)) (texts_of_rows pieces rows)
      → All NodeFits (node_records_of tiles rows) → All EdgeFits (edge_records_of tiles rows offsets) → All IsValid (transitions_of_rows tiles rows) → PassesChecks (finished_tile modes pieces tiles rows)
  finished_passes are can finish same infos texts nodes_fit edges_fit ids_fit =
      let level = sym (id_level rows.level rows.tile can.level can.tile) in
      let tile = sym (id_tile rows.level rows.tile can.level can.tile) in
      let even : length offsets ≡ length (edges_of_rows rows) = length-map (edges_of_rows rows) (entry_offset pieces rows) in
      let counts = counts_law tiles rows offsets can.level even in
      record {
        id = names rows.level rows.tile can.level can.tile finish.there;
        modes = are;
        few_nodes = omega (arith, nodes_many tiles rows.level 0 0 rows.nodes, can.room.nodes);
        few_edges = omega (arith, edges_many tiles rows.level rows.tile (edges_of_rows rows) offsets even, length-flat_map (λ (n : WorkNode). n.edges) rows.nodes, can.room.edges);
        few_transitions = counts.few_transitions;
        nodes = subst (λ l. AllGood (IsNodeRecord l (tile_of_id (value_of rows.level rows.tile 0))) [] (node_records_of tiles rows)) level
            (subst (λ t. AllGood (IsNodeRecord rows.level t) [] (node_records_of tiles rows)) tile (nodes_law tiles rows can.level can.rise finish.nodes nodes_fit));
        edge_counts = counts.edges;
        transition_counts = counts.transitions;
        edges = subst (λ l. AllGood (IsEdgeRecord l) [] (edge_records_of tiles rows offsets)) level (edges_law tiles rows offsets can.level finish.classes edges_fit);
        transitions = subst (λ l. AllGood (IsId (rules.Except l)) [] (transitions_of_rows tiles rows)) level (others_law tiles rows ids_fit);
        chains = tt;
        chain_places = no_chains tiles rows.level rows.tile (edges_of_rows rows) offsets;
        sequences = tt;
        infos = infos;
        entries = all_have tiles rows.level rows.tile (starts_of (entries_of_rows pieces rows)) (entry_offset pieces rows) (edges_of_rows rows) (offsets_start pieces rows same);
        texts = texts;
      }
