use Rattle.std.proofs.Common.{◌≡◌, ◌∙◌, sym, false, arith, rules}
use Rattle.tile_numbers.specs.LookUps.{runs_back}
use Rattle.tile_numbers.proofs.BackEdges.{none_next, index_is, value_is, no_index, no_value}
use Rattle.tile_numbers.proofs.ends.opposing_at.Goals as goal

pub returns-then-runs_back-clause-index : goal.returns-then-runs_back-clause-index
returns-then-runs_back-clause-index c =
    index_is (runs_back c.args.key) c.args.node.now.edges c.loop-k.k c.edge-edge.result (omega arith) c.edge-edge.ensures (sym c.runs_back.ensures ∙ c.if-runs_back.true) c.loop-k.invariant

pub returns-then-runs_back-clause-local : goal.returns-then-runs_back-clause-local
returns-then-runs_back-clause-local c =
    value_is (runs_back c.args.key) c.args.node.now.edges (λ f. f.local) c.loop-k.k c.edge-edge.result (omega arith) c.edge-edge.ensures (sym c.runs_back.ensures ∙ c.if-runs_back.true) c.loop-k.invariant

pub loop-k-preserved : goal.loop-k-preserved
loop-k-preserved c =
    let fails : c.runs_back.result ≡ false = search rules in
    none_next (runs_back c.args.key) c.args.node.now.edges c.loop-k.k c.edge-edge.result (omega arith) c.edge-edge.ensures (sym c.runs_back.ensures ∙ fails) c.loop-k.invariant

pub returns-clause-index : goal.returns-clause-index
returns-clause-index c = no_index (runs_back c.args.key) c.args.node.now.edges c.loop-k.k (omega arith) c.loop-k.invariant

pub returns-clause-local : goal.returns-clause-local
returns-clause-local c = no_value (runs_back c.args.key) c.args.node.now.edges (λ f. f.local) c.loop-k.k (omega arith) c.loop-k.invariant
