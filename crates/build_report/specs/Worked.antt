-- Two reports that are written out.
use Rattle.std.specs.Prelude.{ℕ, List, [], ◌∷◌, ◌++◌, codes}
use Rattle.build_report.specs.declared.summary.BuildReport.{BuildReport}

-- two nodes and a way between them
abbrev pub two_nodes : BuildReport
two_nodes = record {
  edges = 0 ∷ 0 ∷ 2 ∷ [];
  format = 1;
  kept_pieces = 1;
  length_cm = 0 ∷ 0 ∷ 22264 ∷ [];
  masks = 0;
  missing_refs = 0;
  modes = 1;
  nodes = 0 ∷ 0 ∷ 2 ∷ [];
  nodes_read = 2;
  pieces = 1;
  relations_read = 0;
  runs = 1;
  sequences = 0;
  shortcuts = 0 ∷ 0 ∷ 0 ∷ [];
  skipped = 0 ∷ 0 ∷ 0 ∷ 0 ∷ 0 ∷ 0 ∷ 0 ∷ 0 ∷ 0 ∷ 0 ∷ [];
  tiles = 0 ∷ 0 ∷ 1 ∷ [];
  transitions = 0;
  ways = 1;
  ways_read = 1;
}

abbrev pub two_nodes_text : List ℕ
two_nodes_text =
    codes "{\"edges\":[0,0,2],\"format\":1,\"kept_pieces\":1,\"length_cm\":[0,0,22264],\"masks\":0,\"missing_refs\":0,\"modes\":1,\"nodes\":[0,0,2],\"nodes_read\":2,\"pieces\":1,\"relations_read\":0,\"runs\":1,\"sequences\":0,\"shortcuts\":[0,0,0],\"skipped\":{},\"tiles\":[0,0,1],\"transitions\":0,\"ways\":1,\"ways_read\":1}"
    ++ 10 ∷ []

-- one with skipped relations
abbrev pub two_skipped : BuildReport
two_skipped = record two_nodes { skipped = 1 ∷ 0 ∷ 0 ∷ 0 ∷ 0 ∷ 3 ∷ 0 ∷ 0 ∷ 0 ∷ 0 ∷ [] }

abbrev pub two_skipped_text : List ℕ
two_skipped_text =
    codes "{\"edges\":[0,0,2],\"format\":1,\"kept_pieces\":1,\"length_cm\":[0,0,22264],\"masks\":0,\"missing_refs\":0,\"modes\":1,\"nodes\":[0,0,2],\"nodes_read\":2,\"pieces\":1,\"relations_read\":0,\"runs\":1,\"sequences\":0,\"shortcuts\":[0,0,0],\"skipped\":{\"bad_via\":3,\"conditional\":1},\"tiles\":[0,0,1],\"transitions\":0,\"ways\":1,\"ways_read\":1}"
    ++ 10 ∷ []
