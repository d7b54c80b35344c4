-- Which tiles have a spelling, and which it is.
use Rattle.std.specs.Prelude.{◌≡◌, ℕ, ◌*◌, ◌^◌, ◌<◌, ◌≤◌, true, Bool, List, [], ◌++◌, length, All}
use Rattle.std.specs.List.{flat_map}
use Rattle.graph_id.specs.GraphId.{level_of, tile_of_id}
use Rattle.tile_records.specs.Edges.{EdgeFields}
use Rattle.section_grammar.specs.WordBytes.{words_bytes}
use Rattle.section_grammar.specs.Reads.{AllGood}
use Rattle.edge_info.specs.Entries.{InfosPass, infos_bytes, names_of, starts_of, starts_at}
use Rattle.edge_info.specs.Texts.{TextsPass, texts_bytes}
use Rattle.edge_info.specs.InfoSets.{joined_bytes}
use Rattle.tile_bytes.specs.declared.header.TheConstants.{MOST_RECORDS}
use Rattle.tile_bytes.specs.declared.header.Header.{Header}
use Rattle.tile_bytes.specs.declared.ids.LevelRule.TheVariants as rules
use Rattle.tile_bytes.specs.declared.tile.Tile.{Tile}
use Rattle.tile_bytes.specs.Header.{header_words, names_tile, are_modes}
use Rattle.tile_bytes.specs.Items.{node_bytes, IsNodeRecord, edges_of_nodes, transitions_of_nodes, edge_bytes, IsEdgeRecord, IsId}
use Rattle.tile_bytes.specs.Chains.{chain_bytes, words_of_chains, IsTileChain, named_chains, chain_offsets}
use Rattle.tile_bytes.specs.Sequences.{sequence_bytes, words_of_sequences, IsTileSequence}

-- check 14: an edge's `info` is the start of an entry
abbrev pub has_entry : List ℕ → EdgeFields → Bool
has_entry starts e = starts_at starts e.info

-- A tile that passes the checks of a tile file, whatever the size of its sections.
pub record PassesChecks (tile : Tile) : Type 0 where
  pub id : names_tile tile.id ≡ true
  pub modes : are_modes tile.modes ≡ true
  pub few_nodes : length tile.nodes ≤ MOST_RECORDS
  pub few_edges : length tile.edges ≤ MOST_RECORDS
  pub few_transitions : length tile.transitions ≤ 2 * length tile.nodes
  pub nodes : AllGood (IsNodeRecord (level_of tile.id) (tile_of_id tile.id)) [] tile.nodes
  pub edge_counts : edges_of_nodes tile.nodes ≡ length tile.edges
  pub transition_counts : transitions_of_nodes tile.nodes ≡ length tile.transitions
  pub edges : AllGood (IsEdgeRecord (level_of tile.id)) [] tile.edges
  pub transitions : AllGood (IsId (rules.Except (level_of tile.id))) [] tile.transitions
  pub chains : AllGood (IsTileChain (level_of tile.id)) [] tile.chains
  pub chain_places : named_chains tile.edges ≡ chain_offsets 0 tile.chains
  pub sequences : AllGood IsTileSequence [] tile.sequences
  pub infos : InfosPass (length tile.texts) tile.infos
  pub entries : All (λ e. has_entry (starts_of tile.infos) e ≡ true) tile.edges
  pub texts : TextsPass (names_of tile.infos) tile.texts

-- the sizes of the sections fit the header
pub record FitsHeader (tile : Tile) : Type 0 where
  pub chains : words_of_chains tile.chains < 2 ^ 32
  pub sequences : words_of_sequences tile.sequences < 2 ^ 32
  pub infos : length (infos_bytes tile.infos) < 2 ^ 32
  pub texts : length (texts_bytes tile.texts) < 2 ^ 32

-- the header of a tile
unfoldable pub header_of_tile : Tile → Header
header_of_tile tile = record {
  id = tile.id;
  modes = tile.modes;
  nodes = length tile.nodes;
  edges = length tile.edges;
  transitions = length tile.transitions;
  chain_words = words_of_chains tile.chains;
  sequence_words = words_of_sequences tile.sequences;
  texts = length tile.texts;
  info_bytes = length (infos_bytes tile.infos);
  text_bytes = length (texts_bytes tile.texts);
}

-- the one spelling of a tile: the header, and the sections one after the other
unfoldable pub spelling_of : Tile → List ℕ
spelling_of tile =
    words_bytes (header_words (header_of_tile tile))
    ++ (flat_map node_bytes tile.nodes
    ++ (flat_map edge_bytes tile.edges
    ++ (words_bytes tile.transitions
    ++ (flat_map chain_bytes tile.chains
    ++ (flat_map sequence_bytes tile.sequences
    ++ joined_bytes tile.infos tile.texts)))))

-- The bytes spell the tile.
pub record TileSpelled (bytes : List ℕ) (tile : Tile) : Type 0 where
  pub passes : PassesChecks tile
  pub fits : FitsHeader tile
  pub spelled : bytes ≡ spelling_of tile
