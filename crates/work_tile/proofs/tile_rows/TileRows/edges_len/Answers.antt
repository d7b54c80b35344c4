use Rattle.std.proofs.Common.{ℕ, sym, ap, ◌∙◌, arith}
use Rattle.std.specs.Prelude.{sum_by}
use Rattle.work_tile.specs.WorkRows.{WorkRows}
use Rattle.work_tile.proofs.EdgesOver.{edges_at, all_edges, no_edges}
use Rattle.work_tile.proofs.tile_rows.TileRows.edges_len.Goals as goal

abbrev sum_of : WorkRows → ℕ
sum_of r = sum_by edges_at r.nodes

pub returns-then-len-eq0 : goal.returns-then-len-eq0
returns-then-len-eq0 c =
    sym (no_edges c.self.inside.edges c.self.inside.nodes (sym c.len.ensures ∙ c.if-len-eq0.true)) ∙ ap sum_of c.self.view_is

pub overflow_sub-result : goal.overflow_sub-result
overflow_sub-result c =
    let all = all_edges c.self.inside.edges c.self.inside.nodes c.at.result c.self.invariant (λ e. c.if-len-eq0.false (c.len.ensures ∙ e)) c.at.ensures in
    omega (arith, all, c.len-2.ensures)

pub returns : goal.returns
returns c =
    let all = all_edges c.self.inside.edges c.self.inside.nodes c.at.result c.self.invariant (λ e. c.if-len-eq0.false (c.len.ensures ∙ e)) c.at.ensures in
    omega (arith, all, c.len-2.ensures, ap sum_of c.self.view_is)
