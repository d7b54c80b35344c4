use Rattle.std.proofs.Common.{ap, length, arith}
use Rattle.edge_builder.proofs.Bounds.{below_length}
use Rattle.edge_builder.proofs.EdgeLemmas.{starts_length}
use Rattle.edge_builder.proofs.base.start_groups.Goals as goal

pub new-requires-clause-below : goal.new-requires-clause-below
new-requires-clause-below c = below_length c.args.junctions.now c.args.pieces.now c.in_ok-starts.starts.items c.requires.joined c.in_ok-starts.ensures

pub new-requires-clause-few : goal.new-requires-clause-few
new-requires-clause-few c =
    let many = ap length c.in_ok-starts.ensures in
    omega (arith, many, starts_length c.args.junctions.now c.args.pieces.now, c.requires.few_pieces)
