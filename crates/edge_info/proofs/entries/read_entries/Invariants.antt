use Rattle.std.proofs.Common.{◌≡◌, length}
use Rattle.osm_model.specs.declared.piece_key.PieceKey.{PieceKey}
use Rattle.section_grammar.specs.Reads.{read_all}
use Rattle.edge_info.specs.Entries.{key_rises}
use Rattle.edge_info.specs.EntryReading.{entry_at, entries_at}
use Rattle.edge_info.specs.EntryLoops.{rises_after}
use Rattle.edge_info.proofs.entries.read_entries.Given as goal

abbrev pub invariant-loop-rest : goal.invariant-loop-rest
invariant-loop-rest l =
    (read_all (entry_at l.end l.texts) (length l.rest) l.infos l.rest ≡ entries_at l.end l.texts l.section)
    × ((key : PieceKey) → key_rises l.infos key ≡ rises_after l.last key)

abbrev pub decreases-loop-rest : goal.decreases-loop-rest
decreases-loop-rest l = length l.rest
