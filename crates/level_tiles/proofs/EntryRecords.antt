-- The records of the work rows of a table are those of its tiles.
use Rattle.kept_rows.specs.KeptRows.{IsPlainTable, open_table, OpenTableIsPlain}
use Rattle.level_tiles.proofs.EntryWhole.{RecordsAreTold}
use Rattle.level_tiles.proofs.RecordEdges.{edge_records_are}
use Rattle.level_tiles.proofs.RecordNodes.{node_records_are, transitions_are, chains_none, sequences_none}

pub records_are_told : OpenTableIsPlain → RecordsAreTold
records_are_told plain_is x asked rows among =
    let plain : IsPlainTable (open_table x asked) = plain_is x asked in
    record {
      nodes = node_records_are x asked plain rows among;
      edges = edge_records_are x asked plain rows among;
      transitions = transitions_are x asked plain rows among;
      chains = chains_none x asked plain rows among;
      sequences = sequences_none x asked plain rows among;
    }
