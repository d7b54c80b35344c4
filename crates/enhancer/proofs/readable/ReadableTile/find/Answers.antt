use Rattle.std.proofs.Common.{sym, ap, ◌∙◌, subst}
use Rattle.std.specs.Prelude.{position}
use Rattle.std.specs.Ordering.{int_eq}
use Rattle.osm_model.specs.Extract.{IdsRise}
use Rattle.work_tile.specs.WorkRows.{WorkNode, WorkRows}
use Rattle.enhancer.proofs.PlainRows.{node_place-plain, rise-plain}
use Rattle.enhancer.proofs.readable.ReadableTile.find.Goals as goal

pub node_place-requires : goal.node_place-requires
node_place-requires c =
    rise-plain c.rows.result.now.nodes (subst (λ (r : WorkRows). IdsRise (λ (n : WorkNode). n.osm) r.nodes) (sym c.rows.ensures) c.requires)

pub returns : goal.returns
returns c =
    c.node_place.ensures ∙ sym (node_place-plain c.rows.result.now.nodes c.args.osm.now)
    ∙ ap (λ r. position (λ n. int_eq n.osm c.args.osm.now) r.nodes) c.rows.ensures
