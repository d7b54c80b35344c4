-- The way and the node of an id are found, since ways and nodes are in order of id.
use Rattle.std.proofs.Common.{◌≡◌, ◌∙◌, ap, subst, get_or, Some, find, arith}
use Rattle.std.specs.Prelude.{◌<ℤ◌, [], slice_get}
use Rattle.std.specs.Option.{option_map_or}
use Rattle.std.specs.Ordering.{int_eq}
use Rattle.std.specs.Cmp.{signed_Decides}
use Rattle.std.proofs.lemmas.List.Folds.{find_at}
use Rattle.std.proofs.lemmas.List.Sums.{position_or_len_is}
use Rattle.std.proofs.lemmas.Option.{slice_get-get_or}
use Rattle.osm_model.specs.declared.nodes.OsmNode.{OsmNode}
use Rattle.osm_model.specs.declared.ways.OsmWay.{OsmWay}
use Rattle.osm_model.specs.declared.extract.Extract.{Extract}
use Rattle.road_pieces.specs.Rules.{way_tags}
use Rattle.road_pieces.proofs.Members.{IsIn, at_in}
use Rattle.edge_builder.proofs.JunctionLemmas.{below_differs}

pub found_way : (x : Extract) (w : OsmWay) → IsIn x.ways w → find (λ v. int_eq v.id w.id) x.ways ≡ Some w
found_way x w h =
    let (k, (inside, is)) = at_in x.ways w h in
    let place = position_or_len_is (λ v. int_eq v.id w.id) x.ways k w (omega arith)
    (λ j l. below_differs (get_or x.ways j w).id w.id (subst (λ v. (get_or x.ways j w).id <ℤ v.id) (is w) (x.ways_rise j k w l inside)))
    (λ l. (signed_Decides (get_or x.ways k w).id w.id).1 (ap (λ v. v.id) (is w))) in
    find_at (λ v. int_eq v.id w.id) x.ways ∙ (ap (slice_get x.ways) place ∙ (slice_get-get_or x.ways k w inside ∙ ap Some (is w)))

pub found_tags : (x : Extract) (w : OsmWay) → IsIn x.ways w → way_tags x w.id ≡ w.tags
found_tags x w h = ap (λ o. option_map_or (λ v. v.tags) o []) (found_way x w h)

pub found_node : (x : Extract) (n : OsmNode) → IsIn x.nodes n → find (λ m. int_eq m.id n.id) x.nodes ≡ Some n
found_node x n h =
    let (k, (inside, is)) = at_in x.nodes n h in
    let place = position_or_len_is (λ m. int_eq m.id n.id) x.nodes k n (omega arith)
    (λ j l. below_differs (get_or x.nodes j n).id n.id (subst (λ v. (get_or x.nodes j n).id <ℤ v.id) (is n) (x.nodes_rise j k n l inside)))
    (λ l. (signed_Decides (get_or x.nodes k n).id n.id).1 (ap (λ v. v.id) (is n))) in
    find_at (λ m. int_eq m.id n.id) x.nodes ∙ (ap (slice_get x.nodes) place ∙ (slice_get-get_or x.nodes k n inside ∙ ap Some (is n)))
