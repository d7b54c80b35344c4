use Rattle.edge_info.proofs.RowLaws.{begin_at}
use Rattle.edge_info.proofs.infos.begins.Goals as goal

pub returns-clause-points : goal.returns-clause-points
returns-clause-points c = (begin_at c.args.rows.now c.args.i _ c.if-i-eq0.false c.requires).0

pub returns-clause-names : goal.returns-clause-names
returns-clause-names c = (begin_at c.args.rows.now c.args.i _ c.if-i-eq0.false c.requires).1
