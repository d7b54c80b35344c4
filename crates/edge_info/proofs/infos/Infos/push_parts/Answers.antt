use Rattle.std.proofs.Common.{arith}
use Rattle.edge_info.proofs.RowLaws.{fill_behind, info_behind, row_put}
use Rattle.edge_info.proofs.infos.Infos.push_parts.Goals as goal

pub invariant_of-self-in-Ok : goal.invariant_of-self-in-Ok
invariant_of-self-in-Ok c =
    fill_behind _ _ _ _ _ _ _ _ c.args.key c.self.invariant c.in_ok-put_parts.ensures.points c.in_ok-put_parts.ensures.names (row_put _ _ c.args.key _ _ _ _ c.in-Ok.ensures.items (omega (arith, c.len.ensures)) (omega (arith, c.len-2.ensures)))

pub returns-in-Ok-clause-ok : goal.returns-in-Ok-clause-ok
returns-in-Ok-clause-ok c =
    info_behind _ _ _ _ _ _ _ _ _ c.args.key c.self.view_is c.self.invariant c.in_ok-put_parts.ensures.points c.in_ok-put_parts.ensures.names (row_put _ _ c.args.key _ _ _ _ c.in-Ok.ensures.items (omega (arith, c.len.ensures)) (omega (arith, c.len-2.ensures)))
