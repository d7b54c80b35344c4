use Rattle.std.proofs.Common.{◌≡◌, ◌∙◌, rules, to_z, of_z, w64}
use Rattle.std.proofs.lemmas.Int.{to_z-of_z}
use Rattle.tile_bytes.proofs.SumLaws.{sums_push}
use Rattle.tile_bytes.proofs.items.with_node.Goals as goal

pub returns-clause-sums : goal.returns-clause-sums
returns-clause-sums c = λ before s.
    let e : to_z w64 (of_z w64 c.osm_of.result) ≡ c.osm_of.result = to_z-of_z w64 c.osm_of.result (search rules) in
    sums_push before c.args.node.now c.args.sums.now c.edges_at_node.result c.transitions_at_node.result (to_z w64 (of_z w64 c.osm_of.result)) c.edges_at_node.ensures.is c.transitions_at_node.ensures.is (e ∙ c.osm_of.ensures) s
