use Rattle.std.proofs.Common.{◌∙◌}
use Rattle.edge_info.proofs.RowLaws.{names_are}
use Rattle.edge_info.proofs.infos.Infos.names.Goals as goal

pub returns : goal.returns
returns c = c.deref.ensures.value ∙ names_are _ _ _ _ c.self.view_is c.self.invariant
