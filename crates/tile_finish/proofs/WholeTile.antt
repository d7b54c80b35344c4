-- The tile that is put together is the finished tile, and passes the checks.
use Rattle.std.proofs.Common.{◌≡◌, ◌∙◌, ℕ, ◌<◌, ◌≤◌, ◌^◌, true, refl, sym, ap, subst, List, length, get_or, map, arith}
use Rattle.std.specs.Prelude.{All, AllPairs}
use Rattle.std.proofs.lemmas.List.{get_or_default}
use Rattle.road_pieces.specs.declared.rows.Piece.{Piece}
use Rattle.tile_records.specs.Nodes.{NodeFits}
use Rattle.tile_records.specs.Edges.{EdgeFits}
use Rattle.edge_info.specs.declared.infos.Info.{Info}
use Rattle.edge_info.specs.Entries.{InfosPass, names_of}
use Rattle.edge_info.specs.Texts.{TextsPass}
use Rattle.tile_bytes.specs.declared.tile.Tile.{Tile}
use Rattle.tile_bytes.specs.declared.write.WriteFault.{WriteFault}
use Rattle.tile_bytes.specs.declared.write.WriteFault.TheVariants as faults
use Rattle.tile_bytes.specs.Header.{are_modes}
use Rattle.tile_bytes.specs.Items.{IsValid}
use Rattle.tile_bytes.specs.Tiles.{PassesChecks}
use Rattle.tile_bytes.specs.Writing.{IsWriteFault}
use Rattle.work_tile.specs.declared.edge_rows.WorkEdge.{WorkEdge}
use Rattle.work_tile.specs.WorkRows.{WorkRows}
use Rattle.tile_infos.specs.TileTexts.{texts_of_pieces}
use Rattle.tile_infos.specs.TileEntries.{pieces_at, entries_of_pieces}
use Rattle.tile_infos.specs.TileChecks.{HasEntry, KeysRise}
use Rattle.tile_numbers.specs.LookUps.{no_rows}
use Rattle.tile_numbers.specs.Limits.{CanBeNumbered}
use Rattle.tile_numbers.specs.Records.{edges_of_rows}
use Rattle.tile_number_laws.specs.NumberedChecks.{NumberedNodesPass, NumberedEdgesPass, TransitionsPass, NumberedCountsAgree}
use Rattle.tile_finish.specs.FinishedTiles.{piece_places, pieces_of_rows, entries_of_rows, texts_of_rows, entry_offset, finished_tile, CanBeFinished}
use Rattle.tile_finish.specs.Finishing.{assembled_tile, IsSectionFault}
use Rattle.edge_info.specs.Entries.{infos_bytes}
use Rattle.edge_info.specs.Texts.{texts_bytes}
use Rattle.tile_finish.proofs.PlaceLemmas.{rising_pairs}
use Rattle.tile_finish.proofs.Passes.{finished_passes}
use Rattle.tile_finish.proofs.PartLemmas.{places_inside}

-- the rows of the tile with an index
pub rows_there : (tiles : List WorkRows) (i : ℕ) (tile rows : WorkRows) → i < length tiles → tile ≡ get_or tiles i tile → rows ≡ tile → rows ≡ get_or tiles i no_rows
rows_there tiles i tile rows inside here is = is ∙ here ∙ get_or_default tiles i tile no_rows inside

module _ (modes : ℕ) (pieces : List Piece) (tiles : List WorkRows) (rows : WorkRows) where
  pub whole_is : (tile : Tile) (offsets : List ℕ) (infos : List Info) (texts : List (List ℕ)) → tile ≡ assembled_tile modes tiles rows offsets infos texts
      → offsets ≡ map (entry_offset pieces rows) (edges_of_rows rows) → infos ≡ entries_of_rows pieces rows → texts ≡ texts_of_rows pieces rows → tile ≡ finished_tile modes pieces tiles rows
  whole_is tile offsets infos texts is o i t = is ∙ (λ j. assembled_tile modes tiles rows (o j) (i j) (t j))

  -- the faults of sections are those of the tile: it has no chain and no sequence
  pub fault_is : (fault : WriteFault) → IsSectionFault (length (infos_bytes (entries_of_rows pieces rows))) (length (texts_bytes (texts_of_rows pieces rows))) fault → IsWriteFault (finished_tile modes pieces tiles rows) fault
  fault_is (faults.Section count) h = h
  fault_is faults.OutOfMemory h = h

  -- what is known of pieces at places, and of their entries and texts
  abbrev CountLaw : Type 0
  CountLaw = (ps : List Piece) (places : List ℕ) → All (λ place. place < length ps) places → length (pieces_at ps places) ≡ length places

  abbrev EntriesLaw : Type 0
  EntriesLaw = (ps : List Piece) (places : List ℕ) → All HasEntry ps → All (λ place. place < length ps) places → All HasEntry (pieces_at ps places)

  abbrev RiseLaw : Type 0
  RiseLaw = (ps : List Piece) (places : List ℕ) → KeysRise ps → All (λ place. place < length ps) places → AllPairs (λ a b. a < b) places → KeysRise (pieces_at ps places)

  abbrev InfosLaw : Type 0
  InfosLaw = (ps : List Piece) → All HasEntry ps → KeysRise ps → length (texts_of_pieces ps) ≤ 2 ^ 32 → InfosPass (length (texts_of_pieces ps)) (entries_of_pieces ps)

  abbrev TextsLaw : Type 0
  TextsLaw = (ps : List Piece) → All HasEntry ps → TextsPass (names_of (entries_of_pieces ps)) (texts_of_pieces ps)

  pub whole_passes : NumberedNodesPass → NumberedEdgesPass → TransitionsPass → NumberedCountsAgree → CountLaw → EntriesLaw → RiseLaw → InfosLaw → TextsLaw
      → are_modes modes ≡ true → CanBeNumbered rows → CanBeFinished (length pieces) rows → All HasEntry pieces → KeysRise pieces
      → (tile : Tile) → tile ≡ finished_tile modes pieces tiles rows → length tile.texts ≤ 2 ^ 32 → All NodeFits tile.nodes → All EdgeFits tile.edges → All IsValid tile.transitions → PassesChecks tile
  whole_passes nodes_law edges_law others_law counts_law count entries_law rise_law infos_law texts_law are can finish entries rise tile is few nodes edges ids =
      let places = piece_places rows in
      let inside : All (λ place. place < length pieces) places = places_inside (length pieces) rows places finish.places refl in
      let chosen = entries_law pieces places entries inside in
      let up = rise_law pieces places rise inside (rising_pairs (map (λ (e : WorkEdge). e.place) (edges_of_rows rows))) in
      let low : length (texts_of_rows pieces rows) ≤ 2 ^ 32 = omega (arith, few, ap (λ (t : Tile). length t.texts) is) in
      subst PassesChecks (sym is)
      (finished_passes nodes_law edges_law others_law counts_law modes pieces tiles rows are can finish (count pieces places inside)
      (infos_law (pieces_of_rows pieces rows) chosen up low) (texts_law (pieces_of_rows pieces rows) chosen)
      (subst (λ (t : Tile). All NodeFits t.nodes) is nodes) (subst (λ (t : Tile). All EdgeFits t.edges) is edges) (subst (λ (t : Tile). All IsValid t.transitions) is ids))
