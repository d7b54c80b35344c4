use Rattle.std.proofs.Common.{arith}
use Rattle.edge_info.proofs.RowLaws.{size_is}
use Rattle.edge_info.proofs.infos.Infos.size.Goals as goal

pub returns : goal.returns
returns c = omega (arith, size_is _ _ _ _ c.self.view_is c.self.invariant, c.len.ensures, c.len-2.ensures, c.len-3.ensures)
