use Rattle.std.proofs.Common.{◌<◌, ◌+◌, ◌-◌, length, drop, rules, ap, arith}
use Rattle.std.proofs.lemmas.List.{length-take}
use Rattle.work_tile.proofs.tile_rows.NodeView.edge.Goals as goal

pub overflow_add-self-inside : goal.overflow_add-self-inside
overflow_add-self-inside c =
    let many = length-take (c.self.inside.to - c.self.inside.from) (drop c.self.inside.from c.self.inside.edges.now) in
    let lt : c.self.inside.from + c.args.k < c.len.result = omega (arith, c.requires, many, c.len.ensures, c.self.invariant.1, ap (λ n. length n.edges) c.self.view_is) in search rules
