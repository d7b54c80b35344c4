use Rattle.std.proofs.Common.{◌≤◌, ◌∙◌, ap, sym, subst, length, get_or, map, arith, take_all}
use Rattle.edge_builder.specs.BaseTiles.{base_node}
use Rattle.edge_builder.proofs.JunctionLemmas.{no_junction}
use Rattle.edge_builder.proofs.TileLemmas.{few_edges, here_inside, nodes_there}
use Rattle.edge_builder.proofs.tiles.make_tile.Goals as goal

pub push_node-requires-clause-there : goal.push_node-requires-clause-there
push_node-requires-clause-there c =
    let plan = c.args.plan.now in
    here_inside plan.junctions.now plan.pieces.now plan.tiles.now plan.starts.now c.args.here.now c.args.tile c.loop-i.i 0 c.requires.planned c.requires.here c.loop-i-test.true

pub push_node-requires-clause-few : goal.push_node-requires-clause-few
push_node-requires-clause-few c =
    let plan = c.args.plan.now in
    let there = here_inside plan.junctions.now plan.pieces.now plan.tiles.now plan.starts.now c.args.here.now c.args.tile c.loop-i.i 0 c.requires.planned c.requires.here c.loop-i-test.true in
    subst (λ ks. length ks ≤ 127) (sym (c.deref.ensures.value ∙ c.in_ok-find.ensures))
    (few_edges plan.junctions.now plan.pieces.now plan.tiles.now plan.starts.now (get_or c.args.here.now c.loop-i.i 0) c.requires.planned c.requires.none there)

pub returns : goal.returns
returns c =
    let plan = c.args.plan.now in
    let whole = ap (map (λ p. base_node plan.junctions.now plan.pieces.now (get_or plan.junctions.now p no_junction))) (take_all c.loop-i.i c.args.here.now (omega arith))
    ∙ nodes_there plan.junctions.now plan.pieces.now plan.tiles.now c.args.here.now c.args.tile c.requires.planned.tiles_are c.requires.here in
    c.loop-i.invariant ∙ (λ i. record { level = 2; tile = c.args.tile; nodes = whole i })
