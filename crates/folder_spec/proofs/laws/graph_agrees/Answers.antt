use Rattle.folder_spec.proofs.GraphLaw.{same_graph}
use Rattle.folder_spec.proofs.laws.graph_agrees.Goals as goal

pub returns : goal.returns
returns c = same_graph
