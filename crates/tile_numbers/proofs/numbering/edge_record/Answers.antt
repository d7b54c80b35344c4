use Rattle.std.proofs.Common.{◌<◌, arith, rules}
use Rattle.graph_id.specs.GraphId.{invalid}
use Rattle.tile_numbers.proofs.Fits.{id_fits}
use Rattle.tile_numbers.proofs.numbering.edge_record.Goals as goal

pub invariant_of-result : goal.invariant_of-result
invariant_of-result c =
    let valid : c.unwrap.result < invalid =
    id_fits c.make.result c.args.level c.args.edge.now.end_tile c.end_of-end.result.node c.unwrap.result c.requires.level c.requires.edge.end_tile c.end_of-end.ensures.small_node c.make.ensures.value c.unwrap.ensures in
    let mask : c.args.edge.now.mask < 256 = search rules in
    let forward : c.args.edge.now.forward_access < 65_536 = search rules in
    let reverse : c.args.edge.now.reverse_access < 65_536 = search rules in
    (valid, mask, omega arith, omega (arith, c.requires.edge.cm), omega arith, omega arith, forward, reverse, omega arith, omega arith, omega arith, omega arith)
