use Rattle.std.proofs.Common.{length}
use Rattle.std.proofs.lemmas.Bool.{leb-true, le-leb}
use Rattle.tile_walks.proofs.Beginnings.{begun}
use Rattle.tile_walks.proofs.forbidden.begin.Goals as goal

pub returns : goal.returns
returns c =
    let both = begun c.args.edges.now c.args.items.now c.loop-item.k c.loop-item.item-index c.loop-item-test.false c.loop-item.invariant.1 in
    (λ yes. both.1 (leb-true (length c.args.edges.now) c.loop-item.k yes), λ h. le-leb (length c.args.edges.now) c.loop-item.k (both.0 h))
