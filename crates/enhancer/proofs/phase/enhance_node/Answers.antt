use Rattle.std.proofs.Common.{◌++◌, ◌∷◌, [], ◌/◌, map, sum_by, sym, ap, ◌∙◌, subst}
use Rattle.std.proofs.lemmas.List.Sorted.{All-permutation, sum_by-IsPermutation}
use Rattle.fixed_geo.specs.Place.{IsPlace}
use Rattle.enhancer.specs.declared.spots.Spot.{Spot}
use Rattle.enhancer.specs.Enhanced.{enhanced_edge}
use Rattle.enhancer.specs.Density.{cut_cm, spot_cm, near_spots}
use Rattle.enhancer.proofs.EnhancedNode.{node_is}
use Rattle.enhancer.proofs.NearLaw.{near_law}
use Rattle.enhancer.proofs.SpotLists.{spots_placed}
use Rattle.enhancer.proofs.phase.enhance_node.Goals as goal

pub returns-in-Ok-clause-done : goal.returns-in-Ok-clause-done
returns-in-Ok-clause-done g c = λ ps shown before fits spots.
    let node = c.args.node.now in
    let done = c.args.done.now in
    let all = near_spots c.args.places.now ps done.tile in
    let placed = All-permutation (λ (s : Spot). IsPlace s.at) all c.args.spots.now spots (spots_placed c.args.places.now ps fits done.tile) in
    let d = c.density-density.ensures placed (subst IsPlace (sym c.at.ensures) c.requires.stands.0)
    ∙ ap (λ at. cut_cm (sum_by (spot_cm at) c.args.spots.now) / 1_000_000) c.at.ensures
    ∙ ap (λ n. cut_cm n / 1_000_000) (sum_by-IsPermutation (spot_cm node.at) all c.args.spots.now spots)
    ∙ near_law c.args.places.now ps done.tile node.at fits c.requires.stands.0 c.requires.stands.1 c.requires.tile in
    let es = c.as_slice.ensures.value
    ∙ c.in_ok-enhance_edges.ensures.edges ps shown before
    ∙ ap (λ l. map (enhanced_edge c.args.pieces.now c.args.places.now ps l c.tile-tile.result node.osm) node.edges) c.level-level.ensures
    ∙ ap (λ t. map (enhanced_edge c.args.pieces.now c.args.places.now ps done.level t node.osm) node.edges) c.tile-tile.ensures in
    let is = node_is c.args.pieces.now c.args.places.now ps done.level done.tile node c.junction.result c.density-density.result c.as_slice.result.now c.junction.ensures d es in
    c.in-Ok.ensures ∙ (λ i. record done { nodes = done.nodes ++ is i ∷ [] })
