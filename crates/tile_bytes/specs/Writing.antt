-- When a tile isn't written.
use Rattle.std.specs.Prelude.{◌≡◌, ℕ, ◌^◌, nat_lt, List, [], ◌∷◌, length, Option, Some, None, if◌then◌else◌}
use Rattle.edge_info.specs.Entries.{infos_bytes}
use Rattle.edge_info.specs.Texts.{texts_bytes}
use Rattle.tile_bytes.specs.declared.tile.Tile.{Tile}
use Rattle.tile_bytes.specs.declared.write.WriteFault.{WriteFault}
use Rattle.tile_bytes.specs.declared.write.WriteFault.TheVariants as faults
use Rattle.tile_bytes.specs.Chains.{words_of_chains}
use Rattle.tile_bytes.specs.Sequences.{words_of_sequences}

-- the first of these that is above 4,294,967,295
abbrev pub first_above : List ℕ → Option ℕ
first_above [] = None
first_above (n ∷ ns) = if nat_lt n (2 ^ 32) then first_above ns else Some n

-- the words of the chains and of the sequences, the bytes of the entries and of the texts
abbrev pub section_counts : Tile → List ℕ
section_counts tile = words_of_chains tile.chains ∷ words_of_sequences tile.sequences ∷ length (infos_bytes tile.infos) ∷ length (texts_bytes tile.texts) ∷ []

-- why a tile isn't written: its first section that is too large, or want of memory, which says nothing of the tile
abbrev pub IsWriteFault : Tile → WriteFault → Type 0
IsWriteFault tile (faults.Section count) = first_above (section_counts tile) ≡ Some count
IsWriteFault tile faults.OutOfMemory = Unit {0}
