-- Reading a tile file from left to right: the first check that fails, and its place.
use Rattle.std.specs.Prelude.{ℕ, ◌+◌, ◌*◌, List, [], ◌∷◌, length, take, drop, Result, Ok, Err, if◌then◌else◌}
use Rattle.tile_records.specs.Edges.{EdgeFields}
use Rattle.section_grammar.specs.Reads.{◌>>=◌}
use Rattle.section_grammar.specs.Answers.{FailedCheck, Check, place_of}
use Rattle.edge_info.specs.declared.infos.Info.{Info}
use Rattle.edge_info.specs.declared.infos.InfoSet.{InfoSet}
use Rattle.edge_info.specs.Entries.{names_of, starts_of}
use Rattle.edge_info.specs.EntryReading.{entries_at}
use Rattle.edge_info.specs.TextReading.{texts_at}
use Rattle.edge_info.specs.InfoSets.{padding_at}
use Rattle.tile_bytes.specs.declared.header.Header.{Header}
use Rattle.tile_bytes.specs.declared.sequences.Sequence.{Sequence}
use Rattle.tile_bytes.specs.declared.tile.Tile.{Tile}
use Rattle.tile_bytes.specs.Header.{header_at}
use Rattle.tile_bytes.specs.Sequences.{sequences_at}
use Rattle.tile_bytes.specs.TileSections.{TileRecords, records_at, section_of_words, behind_words, chains_in_place}
use Rattle.tile_bytes.specs.Tiles.{has_entry}

-- ---- chains and sequences

pub record TileLists : Type 0 where
  pub chains : List (List ℕ)
  pub sequences : List Sequence

abbrev pub with_sequences : ℕ → Header → List ℕ → List (List ℕ) → Result TileLists FailedCheck
with_sequences end h rest chains =
    sequences_at (place_of end (behind_words h.sequence_words rest)) (section_of_words h.sequence_words rest) >>= λ sequences.
    Ok (record { chains = chains; sequences = sequences })

unfoldable pub lists_at : ℕ → Header → List EdgeFields → List ℕ → Result TileLists FailedCheck
lists_at end h edges rest =
    chains_in_place h edges (place_of end (behind_words h.chain_words rest)) (section_of_words h.chain_words rest) >>= λ chains.
    with_sequences end h (behind_words h.chain_words rest) chains

-- what follows these sections
abbrev pub behind_lists : Header → List ℕ → List ℕ
behind_lists h rest = behind_words h.sequence_words (behind_words h.chain_words rest)

-- ---- entries and texts

-- check 14: the first edge without an entry; the first of them stands at this place
unfoldable pub edge_entries_at : ℕ → List ℕ → List EdgeFields → Result (Unit {0}) FailedCheck
edge_entries_at at starts [] = Ok tt
edge_entries_at at starts (e ∷ es) = if has_entry starts e then edge_entries_at (at + 32) starts es else Err (Check 14 at)

abbrev pub with_texts : ℕ → Header → List ℕ → List Info → Result InfoSet FailedCheck
with_texts end h rest infos =
    texts_at (place_of end (drop h.text_bytes rest)) (names_of infos) h.texts (take h.text_bytes rest) >>= λ texts.
    padding_at end (drop h.text_bytes rest) >>= λ _.
    Ok (record { infos = infos; texts = texts })

abbrev pub with_infos : ℕ → Header → List EdgeFields → List ℕ → List Info → Result InfoSet FailedCheck
with_infos end h edges rest infos =
    edge_entries_at (64 + 32 * h.nodes) (starts_of infos) edges >>= λ _.
    with_texts end h rest infos

unfoldable pub infos_at : ℕ → Header → List EdgeFields → List ℕ → Result InfoSet FailedCheck
infos_at end h edges rest =
    entries_at (place_of end (drop h.info_bytes rest)) h.texts (take h.info_bytes rest) >>= λ infos.
    with_infos end h edges (drop h.info_bytes rest) infos

-- ---- the whole

abbrev pub tile_with : Header → TileRecords → TileLists → InfoSet → Tile
tile_with h r l s = record {
  id = h.id;
  modes = h.modes;
  nodes = r.nodes;
  edges = r.edges;
  transitions = r.transitions;
  chains = l.chains;
  sequences = l.sequences;
  infos = s.infos;
  texts = s.texts;
}

abbrev pub after_lists : ℕ → Header → TileRecords → List ℕ → TileLists → Result Tile FailedCheck
after_lists end h r rest l = infos_at end h r.edges (behind_lists h rest) >>= λ s. Ok (tile_with h r l s)

abbrev pub after_records : ℕ → Header → TileRecords × List ℕ → Result Tile FailedCheck
after_records end h r = lists_at end h r.0.edges r.1 >>= after_lists end h r.0 r.1

abbrev pub after_header : ℕ → Header × List ℕ → Result Tile FailedCheck
after_header end h = records_at end h.0 h.1 >>= after_records end h.0

-- the tile that the bytes spell, or the first check that fails
unfoldable pub tile_at : List ℕ → Result Tile FailedCheck
tile_at bytes = header_at bytes >>= after_header (length bytes)
