-- The sixteen checks of a tile file: when each fails, and at which place.
use Rattle.std.specs.Prelude.{◌≡◌, ◌≢◌, ℕ, ◌+◌, ◌*◌, ◌%◌, ◌^◌, ◌<◌, ◌≤◌, ◌⊎◌, Bool, true, false, List, [], ◌∷◌, ◌++◌, length, take, drop, All}
use Rattle.std.specs.List.{flat_map}
use Rattle.graph_id.specs.GraphId.{level_of, tile_of_id}
use Rattle.tile_records.specs.Nodes.{NodeFields}
use Rattle.tile_records.specs.Edges.{EdgeFields}
use Rattle.section_grammar.specs.declared.fault.SectionFault.{SectionFault}
use Rattle.section_grammar.specs.declared.fault.SectionFault.TheVariants as faults
use Rattle.section_grammar.specs.WordBytes.{word_in, words_in, word_bytes}
use Rattle.section_grammar.specs.Reads.{AllGood}
use Rattle.section_grammar.specs.Answers.{place_of}
use Rattle.section_grammar.specs.FirstFailing.{IsFewerThan, HasMore, NoneBegins, ItemFails, IsOverfull, FailsFrom, IsFirstToFail}
use Rattle.edge_info.specs.declared.infos.Info.{Info}
use Rattle.edge_info.specs.Entries.{AreInfos, infos_bytes, names_of, starts_of}
use Rattle.edge_info.specs.Checks.{EntryFails, TextFails, PaddingFails}
use Rattle.tile_bytes.specs.declared.header.Header.{Header}
use Rattle.tile_bytes.specs.declared.ids.LevelRule.{LevelRule}
use Rattle.tile_bytes.specs.declared.ids.LevelRule.TheVariants as rules
use Rattle.tile_bytes.specs.declared.sequences.Sequence.{Sequence}
use Rattle.tile_bytes.specs.Header.{header_of, has_signature, has_tile, has_corner, has_few_records, has_few_transitions, has_size}
use Rattle.tile_bytes.specs.Items.{node_bytes, IsNodeRecord, edges_of_nodes, transitions_of_nodes, edge_bytes, IsEdgeRecord, IsId}
use Rattle.tile_bytes.specs.Chains.{chain_bytes, IsTileChain, named_chains, chain_offsets}
use Rattle.tile_bytes.specs.Sequences.{sequence_bytes, IsTileSequence, first_word_passes}
use Rattle.tile_bytes.specs.Tiles.{has_entry}

-- ---- the parts of a file

-- the first eight words, and the header that they say
abbrev pub first_words : List ℕ → List ℕ
first_words bytes = words_in 8 bytes

abbrev pub header_in : List ℕ → Header
header_in bytes = header_of (first_words bytes)

-- the file from a section on
abbrev pub from_nodes : List ℕ → List ℕ
from_nodes bytes = drop 64 bytes

abbrev pub from_edges : List ℕ → List ℕ
from_edges bytes = drop (32 * (header_in bytes).nodes) (from_nodes bytes)

abbrev pub from_transitions : List ℕ → List ℕ
from_transitions bytes = drop (32 * (header_in bytes).edges) (from_edges bytes)

abbrev pub from_chains : List ℕ → List ℕ
from_chains bytes = drop (8 * (header_in bytes).transitions) (from_transitions bytes)

abbrev pub from_sequences : List ℕ → List ℕ
from_sequences bytes = drop (8 * (header_in bytes).chain_words) (from_chains bytes)

abbrev pub from_infos : List ℕ → List ℕ
from_infos bytes = drop (8 * (header_in bytes).sequence_words) (from_sequences bytes)

abbrev pub from_texts : List ℕ → List ℕ
from_texts bytes = drop (header_in bytes).info_bytes (from_infos bytes)

abbrev pub from_padding : List ℕ → List ℕ
from_padding bytes = drop (header_in bytes).text_bytes (from_texts bytes)

-- the sections whose sizes the header says
abbrev pub chain_section : List ℕ → List ℕ
chain_section bytes = take (8 * (header_in bytes).chain_words) (from_chains bytes)

abbrev pub sequence_section : List ℕ → List ℕ
sequence_section bytes = take (8 * (header_in bytes).sequence_words) (from_sequences bytes)

abbrev pub info_section : List ℕ → List ℕ
info_section bytes = take (header_in bytes).info_bytes (from_infos bytes)

abbrev pub text_section : List ℕ → List ℕ
text_section bytes = take (header_in bytes).text_bytes (from_texts bytes)

-- these edges stand in the file, each of them good
pub record AreTileEdges (bytes : List ℕ) (edges : List EdgeFields) : Type 0 where
  pub each_good : AllGood (IsEdgeRecord (level_of (header_in bytes).id)) [] edges
  pub all : length edges ≡ (header_in bytes).edges
  pub after : List ℕ
  pub spelled : from_edges bytes ≡ flat_map edge_bytes edges ++ after

-- these entries stand in the file, each of them good
pub record AreTileInfos (bytes : List ℕ) (infos : List Info) : Type 0 where
  pub are_good : AreInfos (header_in bytes).texts infos
  pub spelled : info_section bytes ≡ infos_bytes infos

-- ---- the header

-- check 1: the file has less than 64 bytes
abbrev pub LacksHeader : List ℕ → ℕ → Type 0
LacksHeader bytes at = (length bytes < 64) × (at ≡ length bytes)

-- a test of the header fails; its place is that of a word
abbrev pub WordFails : Bool → ℕ → ℕ → Type 0
WordFails passes place at = (passes ≡ false) × (at ≡ place)

-- ---- nodes, edges, transitions

-- all nodes are good, but their edges or their transitions aren't as many as the header says; the place is their end
pub record TotalsDiffer (h : Header) (section : List ℕ) (at : ℕ) : Type 0 where
  pub nodes : List NodeFields
  pub after : List ℕ
  pub each_good : AllGood (IsNodeRecord (level_of h.id) (tile_of_id h.id)) [] nodes
  pub all : length nodes ≡ h.nodes
  pub spelled : section ≡ flat_map node_bytes nodes ++ after
  pub differ : (edges_of_nodes nodes ≡ h.edges) → (transitions_of_nodes nodes ≡ h.transitions) → ⊥
  pub here : at ≡ length (flat_map node_bytes nodes)

-- check 8: a node, or the totals
abbrev pub NodeSectionFails : List ℕ → ℕ → Type 0
NodeSectionFails bytes at =
    FailsFrom (place_of (length bytes) (from_nodes bytes))
    (ItemFails node_bytes (IsNodeRecord (level_of (header_in bytes).id) (tile_of_id (header_in bytes).id)) (IsFewerThan (header_in bytes).nodes) (NoneBegins node_bytes (IsNodeRecord (level_of (header_in bytes).id) (tile_of_id (header_in bytes).id))) (from_nodes bytes)) at
    ⊎ FailsFrom (place_of (length bytes) (from_nodes bytes)) (TotalsDiffer (header_in bytes) (from_nodes bytes)) at

-- check 9: an edge
abbrev pub EdgeSectionFails : List ℕ → ℕ → Type 0
EdgeSectionFails bytes at =
    FailsFrom (place_of (length bytes) (from_edges bytes))
    (ItemFails edge_bytes (IsEdgeRecord (level_of (header_in bytes).id)) (IsFewerThan (header_in bytes).edges) (NoneBegins edge_bytes (IsEdgeRecord (level_of (header_in bytes).id))) (from_edges bytes)) at

-- a GraphId among so many that stand there
abbrev pub IdFails : LevelRule → ℕ → List ℕ → ℕ → Type 0
IdFails rule count section = ItemFails word_bytes (IsId rule) (IsFewerThan count) (NoneBegins word_bytes (IsId rule)) section

-- check 10: a transition
abbrev pub TransitionSectionFails : List ℕ → ℕ → Type 0
TransitionSectionFails bytes at =
    FailsFrom (place_of (length bytes) (from_transitions bytes)) (IdFails (rules.Except (level_of (header_in bytes).id)) (header_in bytes).transitions (from_transitions bytes)) at

-- ---- chains

-- a chain is missing, or its count is below 2 or runs past the section; the place is the count's
pub record CountFails (left : List ℕ) (offset : ℕ) : Type 0 where
  pub wrong : (length left < 8) ⊎ (word_in left < 2) ⊎ (length (drop 8 left) < 8 * word_in left)
  pub here : offset ≡ 0

-- a chain has its count, and one of its GraphIds is none of this level; the place is that word's
pub record ChainIdFails (level : ℕ) (left : List ℕ) (offset : ℕ) : Type 0 where
  pub whole : 8 ≤ length left
  pub two : 2 ≤ word_in left
  pub room : 8 * word_in left ≤ length (drop 8 left)
  pub within : ℕ
  pub fails_so : IdFails (rules.Only level) (word_in left) (drop 8 left) within
  pub here : offset ≡ 8 + within

abbrev pub ChainFails : ℕ → List (List ℕ) → List ℕ → ℕ → Type 0
ChainFails level before left offset = CountFails left offset ⊎ ChainIdFails level left offset

-- The chains fill the section, and an edge is the first shortcut whose chain begins elsewhere than it says. The place is
-- the edge's, counted from the first edge.
pub record OffsetDiffers (edges : List EdgeFields) (offsets : List ℕ) (at : ℕ) : Type 0 where
  pub front : List EdgeFields
  pub edge : EdgeFields
  pub back : List EdgeFields
  pub edges_are : edges ≡ front ++ edge ∷ back
  pub shortcut : edge.shortcut ≡ true
  pub offset : ℕ
  pub others : List ℕ
  pub offsets_are : offsets ≡ named_chains front ++ offset ∷ others
  pub wrong : edge.chain ≢ offset
  pub here : at ≡ 32 * length front

pub record OffsetFails (level : ℕ) (edges : List EdgeFields) (section : List ℕ) (at : ℕ) : Type 0 where
  pub chains : List (List ℕ)
  pub each_good : AllGood (IsTileChain level) [] chains
  pub all : length chains ≡ length (named_chains edges)
  pub spelled : section ≡ flat_map chain_bytes chains
  pub differs : OffsetDiffers edges (chain_offsets 0 chains) at

-- check 11: a chain, the first word left over, or a shortcut's offset
pub record ChainSectionFails (bytes : List ℕ) (at : ℕ) : Type 0 where
  pub edges : List EdgeFields
  pub are : AreTileEdges bytes edges
  pub fails_so : (FailsFrom (place_of (length bytes) (from_chains bytes))
      (ItemFails chain_bytes (IsTileChain (level_of (header_in bytes).id)) (IsFewerThan (length (named_chains edges))) (ChainFails (level_of (header_in bytes).id)) (chain_section bytes)) at
      ⊎ FailsFrom (place_of (length bytes) (from_chains bytes)) (IsOverfull chain_bytes (IsTileChain (level_of (header_in bytes).id)) (length (named_chains edges)) (chain_section bytes)) at)
      ⊎ FailsFrom (64 + 32 * (header_in bytes).nodes) (OffsetFails (level_of (header_in bytes).id) edges (chain_section bytes)) at

-- ---- sequences

-- the first word of a sequence is cut off or fails
pub record FirstWordFails (before : List Sequence) (left : List ℕ) (offset : ℕ) : Type 0 where
  pub wrong : (length left < 8) ⊎ (first_word_passes before left ≡ false)
  pub here : offset ≡ 0

-- the first word passes, and one of the GraphIds behind it is none
pub record SequenceIdFails (before : List Sequence) (left : List ℕ) (offset : ℕ) : Type 0 where
  pub whole : 8 ≤ length left
  pub passes : first_word_passes before left ≡ true
  pub within : ℕ
  pub fails_so : IdFails rules.Any (word_in left % 2 ^ 16) (drop 8 left) within
  pub here : offset ≡ 8 + within

abbrev pub SequenceFails : List Sequence → List ℕ → ℕ → Type 0
SequenceFails before left offset = FirstWordFails before left offset ⊎ SequenceIdFails before left offset

-- check 12: a sequence
abbrev pub SequenceSectionFails : List ℕ → ℕ → Type 0
SequenceSectionFails bytes at = FailsFrom (place_of (length bytes) (from_sequences bytes)) (ItemFails sequence_bytes IsTileSequence HasMore SequenceFails (sequence_section bytes)) at

-- ---- entries and texts

-- check 13: an entry
abbrev pub EntrySectionFails : List ℕ → ℕ → Type 0
EntrySectionFails bytes at = FailsFrom (place_of (length bytes) (from_infos bytes)) (EntryFails (header_in bytes).texts (info_section bytes)) at

-- an edge is the first whose `info` is the start of no entry; its place is counted from the first edge
pub record EntryMissing (starts : List ℕ) (edges : List EdgeFields) (at : ℕ) : Type 0 where
  pub front : List EdgeFields
  pub edge : EdgeFields
  pub back : List EdgeFields
  pub edges_are : edges ≡ front ++ edge ∷ back
  pub have : All (λ e. has_entry starts e ≡ true) front
  pub lacks : has_entry starts edge ≡ false
  pub here : at ≡ 32 * length front

-- check 14: an edge without an entry
pub record EdgeEntryFails (bytes : List ℕ) (at : ℕ) : Type 0 where
  pub edges : List EdgeFields
  pub are : AreTileEdges bytes edges
  pub infos : List Info
  pub are_infos : AreTileInfos bytes infos
  pub fails_so : FailsFrom (64 + 32 * (header_in bytes).nodes) (EntryMissing (starts_of infos) edges) at

-- check 15: a text, or the end of the texts
pub record TextSectionFails (bytes : List ℕ) (at : ℕ) : Type 0 where
  pub infos : List Info
  pub are_infos : AreTileInfos bytes infos
  pub fails_so : FailsFrom (place_of (length bytes) (from_texts bytes)) (TextFails (names_of infos) (header_in bytes).texts (text_section bytes)) at

-- check 16: a byte of the padding
abbrev pub PaddingSectionFails : List ℕ → ℕ → Type 0
PaddingSectionFails bytes at = FailsFrom (place_of (length bytes) (from_padding bytes)) (PaddingFails (from_padding bytes)) at

-- ---- all of them

-- the checks by name
pub data TileCheck : Type 0 where
  HeaderThere : TileCheck
  Signature : TileCheck
  TileNamed : TileCheck
  CornerRight : TileCheck
  FewRecords : TileCheck
  FewTransitions : TileCheck
  SizeRight : TileCheck
  NodesGood : TileCheck
  EdgesGood : TileCheck
  TransitionsGood : TileCheck
  ChainsGood : TileCheck
  SequencesGood : TileCheck
  EntriesGood : TileCheck
  EdgesHaveEntries : TileCheck
  TextsGood : TileCheck
  PaddingZero : TileCheck

-- their numbers, which are their order
abbrev pub check_number : TileCheck → ℕ
check_number HeaderThere = 1
check_number Signature = 2
check_number TileNamed = 3
check_number CornerRight = 4
check_number FewRecords = 5
check_number FewTransitions = 6
check_number SizeRight = 7
check_number NodesGood = 8
check_number EdgesGood = 9
check_number TransitionsGood = 10
check_number ChainsGood = 11
check_number SequencesGood = 12
check_number EntriesGood = 13
check_number EdgesHaveEntries = 14
check_number TextsGood = 15
check_number PaddingZero = 16

-- a check fails at a place of the file
abbrev pub CheckFails : List ℕ → TileCheck → ℕ → Type 0
CheckFails bytes HeaderThere at = LacksHeader bytes at
CheckFails bytes Signature at = WordFails (has_signature (first_words bytes)) 0 at
CheckFails bytes TileNamed at = WordFails (has_tile (first_words bytes)) 8 at
CheckFails bytes CornerRight at = WordFails (has_corner (first_words bytes)) 16 at
CheckFails bytes FewRecords at = WordFails (has_few_records (first_words bytes)) 24 at
CheckFails bytes FewTransitions at = WordFails (has_few_transitions (first_words bytes)) 32 at
CheckFails bytes SizeRight at = WordFails (has_size (length bytes) (first_words bytes)) 56 at
CheckFails bytes NodesGood at = NodeSectionFails bytes at
CheckFails bytes EdgesGood at = EdgeSectionFails bytes at
CheckFails bytes TransitionsGood at = TransitionSectionFails bytes at
CheckFails bytes ChainsGood at = ChainSectionFails bytes at
CheckFails bytes SequencesGood at = SequenceSectionFails bytes at
CheckFails bytes EntriesGood at = EntrySectionFails bytes at
CheckFails bytes EdgesHaveEntries at = EdgeEntryFails bytes at
CheckFails bytes TextsGood at = TextSectionFails bytes at
CheckFails bytes PaddingZero at = PaddingSectionFails bytes at

-- the first check that fails, by number and then by place
abbrev pub IsFirstFailing : List ℕ → TileCheck → ℕ → Type 0
IsFirstFailing bytes check at = IsFirstToFail check_number (CheckFails bytes) check at

-- no check fails anywhere
abbrev pub NoCheckFails : List ℕ → Type 0
NoCheckFails bytes = (check : TileCheck) (at : ℕ) → CheckFails bytes check at → ⊥

-- a fault is that of the first check that fails; want of memory says nothing of the bytes
abbrev pub IsFirstFault : List ℕ → SectionFault → Type 0
IsFirstFault bytes faults.OutOfMemory = Unit {0}
IsFirstFault bytes (faults.Bad number at) = (check : TileCheck) × IsFirstFailing bytes check at × (number ≡ check_number check)
