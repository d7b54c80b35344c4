-- The sections of a tile file from the nodes to the sequences, read in their order. `end` is the length of the file.
use Rattle.std.specs.Prelude.{ℕ, ◌+◌, ◌*◌, ◌&&◌, ◌==◌, List, [], length, take, drop, Result, Ok, Err, if◌then◌else◌}
use Rattle.graph_id.specs.GraphId.{level_of, tile_of_id}
use Rattle.tile_records.specs.Nodes.{NodeFields}
use Rattle.tile_records.specs.Edges.{EdgeFields}
use Rattle.section_grammar.specs.Reads.{◌>>=◌, read_many}
use Rattle.section_grammar.specs.Answers.{FailedCheck, Check, place_of}
use Rattle.tile_bytes.specs.declared.ids.LevelRule.TheVariants as rules
use Rattle.tile_bytes.specs.declared.header.Header.{Header}
use Rattle.tile_bytes.specs.Items.{edges_of_nodes, transitions_of_nodes, node_record_at, edge_record_at, id_at}
use Rattle.tile_bytes.specs.Chains.{chains_at, named_chains, chain_offsets, offsets_at}

-- the nodes; where their counts don't add up to the header's, the place is their end
unfoldable pub nodes_at : ℕ → Header → List ℕ → Result (List NodeFields × List ℕ) FailedCheck
nodes_at end h rest =
    read_many (node_record_at (level_of h.id) (tile_of_id h.id) end) h.nodes [] rest >>= λ x.
    if edges_of_nodes x.0 == h.edges && transitions_of_nodes x.0 == h.transitions then Ok x else Err (Check 8 (place_of end x.1))

unfoldable pub edges_at : ℕ → Header → List ℕ → Result (List EdgeFields × List ℕ) FailedCheck
edges_at end h rest = read_many (edge_record_at (level_of h.id) end) h.edges [] rest

unfoldable pub transitions_at : ℕ → Header → List ℕ → Result (List ℕ × List ℕ) FailedCheck
transitions_at end h rest = read_many (id_at (rules.Except (level_of h.id)) 10 end) h.transitions [] rest

-- the sections of a fixed number of records
pub record TileRecords : Type 0 where
  pub nodes : List NodeFields
  pub edges : List EdgeFields
  pub transitions : List ℕ

abbrev pub with_transitions : ℕ → Header → List NodeFields → List EdgeFields → List ℕ → Result (TileRecords × List ℕ) FailedCheck
with_transitions end h nodes edges rest =
    transitions_at end h rest >>= λ x. Ok (record { nodes = nodes; edges = edges; transitions = x.0 }, x.1)

abbrev pub with_edges : ℕ → Header → List NodeFields → List ℕ → Result (TileRecords × List ℕ) FailedCheck
with_edges end h nodes rest = edges_at end h rest >>= λ x. with_transitions end h nodes x.0 x.1

unfoldable pub records_at : ℕ → Header → List ℕ → Result (TileRecords × List ℕ) FailedCheck
records_at end h rest = nodes_at end h rest >>= λ x. with_edges end h x.0 x.1

-- a section of so many words, and what follows it
abbrev pub section_of_words : ℕ → List ℕ → List ℕ
section_of_words words rest = take (8 * words) rest

abbrev pub behind_words : ℕ → List ℕ → List ℕ
behind_words words rest = drop (8 * words) rest

-- the chains of these edges, each of which begins where its shortcut says; they fill the section, which ends at a place
unfoldable pub chains_in_place : Header → List EdgeFields → ℕ → List ℕ → Result (List (List ℕ)) FailedCheck
chains_in_place h edges end section =
    chains_at (level_of h.id) end (length (named_chains edges)) section >>= λ chains.
    offsets_at (64 + 32 * h.nodes) edges (chain_offsets 0 chains) >>= λ _.
    Ok chains
