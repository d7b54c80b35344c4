use Rattle.std.proofs.Common.{ap, length, arith}
use Rattle.edge_info.proofs.StartLaws.{info_length}
use Rattle.edge_info.proofs.starts.size_of.Goals as goal

pub overflow_mul-result : goal.overflow_mul-result
overflow_mul-result c = omega (arith, info_length c.args.info.now, c.requires, ap length c.shape.ensures)

pub overflow_add-result : goal.overflow_add-result
overflow_add-result c = omega (arith, info_length c.args.info.now, c.requires, ap length c.shape.ensures)

pub overflow_mul-result-2 : goal.overflow_mul-result-2
overflow_mul-result-2 c = omega (arith, info_length c.args.info.now, c.requires, ap length c.shape.ensures, ap length c.texts.ensures)

pub overflow_add-result-2 : goal.overflow_add-result-2
overflow_add-result-2 c = omega (arith, info_length c.args.info.now, c.requires, ap length c.shape.ensures, ap length c.texts.ensures)

pub returns : goal.returns
returns c = omega (arith, info_length c.args.info.now, c.requires, ap length c.shape.ensures, ap length c.texts.ensures)
