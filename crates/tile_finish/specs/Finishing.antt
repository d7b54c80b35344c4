-- Words for the code that finishes a tile.
use Rattle.std.specs.Prelude.{◌≡◌, ℕ, ◌<◌, ◌^◌, nat_eq, List, [], ◌∷◌, length, slice_index_or, Some, All, AllPairs}
use Rattle.std.specs.List.{position_or_len}
use Rattle.edge_info.specs.declared.infos.Info.{Info}
use Rattle.edge_info.specs.Entries.{infos_bytes}
use Rattle.edge_info.specs.Texts.{texts_bytes}
use Rattle.work_tile.specs.WorkRows.{WorkRows}
use Rattle.tile_bytes.specs.declared.tile.Tile.{Tile}
use Rattle.tile_bytes.specs.declared.write.WriteFault.{WriteFault}
use Rattle.tile_bytes.specs.declared.write.WriteFault.TheVariants as faults
use Rattle.tile_bytes.specs.Writing.{first_above}
use Rattle.graph_id.specs.GraphId.{value_of}
use Rattle.tile_numbers.specs.Records.{node_records_of, edge_records_of, transitions_of_rows}

-- what stands at the place of a number among others
abbrev pub start_at_place : List ℕ → List ℕ → ℕ → ℕ
start_at_place places starts place = slice_index_or starts (position_or_len (nat_eq place) places) 0

-- places in order, each once, and for each an offset of 32 bits
pub record AreStarts (places starts : List ℕ) : Type 0 where
  pub rise : AllPairs (λ a b. a < b) places
  pub same : length starts ≡ length places
  pub small : All (λ s. s < 2 ^ 32) starts

-- entries and texts whose numbers of bytes fit a header
pub record AreShort (infos : List Info) (texts : List (List ℕ)) : Type 0 where
  pub few_infos : length (infos_bytes infos) < 2 ^ 32
  pub few_texts : length (texts_bytes texts) < 2 ^ 32

-- the first of these numbers of bytes that is above 4,294,967,295, or want of memory
abbrev pub IsSectionFault : ℕ → ℕ → WriteFault → Type 0
IsSectionFault infos texts (faults.Section count) = first_above (infos ∷ texts ∷ []) ≡ Some count
IsSectionFault infos texts faults.OutOfMemory = Unit {0}

-- the tile of rows among other tiles, with these offsets, entries and texts
abbrev pub assembled_tile : ℕ → List WorkRows → WorkRows → List ℕ → List Info → List (List ℕ) → Tile
assembled_tile modes tiles rows offsets infos texts = record {
  id = value_of rows.level rows.tile 0;
  modes = modes;
  nodes = node_records_of tiles rows;
  edges = edge_records_of tiles rows offsets;
  transitions = transitions_of_rows tiles rows;
  chains = [];
  sequences = [];
  infos = infos;
  texts = texts;
}
