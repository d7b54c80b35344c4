use Rattle.std.proofs.Common.{rules, [], ◌∷◌, ◌++◌, ◌≡◌, ◌<◌, ◌∙◌, length, arith, ap, sym, refl, Ok, Err, List, ℤ, pos, to_z, of_z, w64, w32, FitsSigned}
use Rattle.std.proofs.lemmas.Int.{to_z-of_z}
use Rattle.std.proofs.lemmas.List.{get_or_read}
use Rattle.osm_model.specs.declared.tags.Tag.{Tag}
use Rattle.osm_model.specs.declared.nodes.OsmNode.{OsmNode}
use Rattle.osm_objects.specs.declared.fault.ObjectFault.TheVariants.{BadCoordinate}
use Rattle.osm_objects.specs.Seen.{table_of}
use Rattle.osm_objects.proofs.Exits.{Becomes-exit}
use Rattle.osm_objects.proofs.DenseLoop.{DenseSoFar-begun, DenseSoFar-end, turn-fault, turn-placed, turn-misplaced, whole-bad}
use Rattle.osm_objects.proofs.Counted.{NodesSoFar, group-few, one-fits, NodesSoFar-placed, NodesSoFar-misplaced}
use Rattle.osm_objects.proofs.dense.add_nodes.Goals as goal
use Rattle.osm_objects.proofs.dense.add_nodes.Goals.{in-Some+in_ok-append_parts-in-Some, in-None}

abbrev decoded_node : ℤ → ℤ → ℤ → List Tag → OsmNode
decoded_node id lat lon tags = record { id = id; lat = lat; lon = lon; tags = tags }

same_node : (id lat lon u v : ℤ) (tags : List Tag) → lat ≡ u → lon ≡ v → decoded_node id lat lon tags ≡ decoded_node id u v tags
same_node id lat lon u v tags e f = rw (e, f) refl

pub loop-i-init : goal.loop-i-init
loop-i-init c = record {
  so_far = DenseSoFar-begun (table_of c.args.texts.now) c.args.scale c.args.at c.args.nodes.now c.args.sums.now.ids.items c.args.sums.now.lats.items c.args.sums.now.lons.items c.args.keys_values.now c.requires.groups;
  fits = record { places = omega arith; their_tags = omega arith };
}

pub append_parts-requires : goal.append_parts-requires
append_parts-requires c =
    let read = rw c.loop-i.invariant.so_far.kept at c.in_ok-rest.ensures.tags in
    let few = group-few (table_of c.args.texts.now) c.args.at c.loop-i.rest.now c.read_group.new.tags.items c.in_ok-rest.rest.now read in
    one-fits _ _ c.loop-i.i (length c.args.sums.now.ids.items) c.args.keys_values.now _ _ _ _ c.loop-i.invariant.fits (omega arith) c.requires.places c.requires.room few c.as_slice.ensures.value

pub returns-in_err-rest-clause-nodes : goal.returns-in_err-rest-clause-nodes
returns-in_err-rest-clause-nodes c =
    let read = rw c.loop-i.invariant.so_far.kept at c.in_err-rest.ensures.tags in
    Becomes-exit _ _ _ _ _ c.from_residual.ensures.1 read
    (λ d e. turn-fault (table_of c.args.texts.now) _ c.args.scale c.args.at _ _ _ c.args.sums.now.ids.items c.args.sums.now.lats.items c.args.sums.now.lons.items c.loop-i.i _ d c.loop-i.invariant.so_far (omega arith) e)

pub loop-i-preserved : goal.loop-i-preserved
loop-i-preserved c =
    let read = rw c.loop-i.invariant.so_far.kept at c.in_ok-rest.ensures.tags in
    let kept = c.read_group.ensures.table ∙ c.loop-i.invariant.so_far.kept in
    let lat_fits : FitsSigned w64 c.index.result.now = search rules in
    let lon_fits : FitsSigned w64 c.index-in-loop-i.result.now = search rules in
    let few = group-few (table_of c.args.texts.now) c.args.at c.loop-i.rest.now c.read_group.new.tags.items c.in_ok-rest.rest.now read in
    let h : c.loop-i.i < length c.args.sums.now.ids.items = omega arith in
    let lat_is = to_z-of_z w64 _ lat_fits ∙ get_or_read c.args.sums.now.lats.items c.loop-i.i _ (omega arith) c.index.ensures (pos 0) in
    let lon_is = to_z-of_z w64 _ lon_fits ∙ get_or_read c.args.sums.now.lons.items c.loop-i.i _ (omega arith) c.index-in-loop-i.ensures (pos 0) in
    elim c.match-place.branch [
      | in-Some+in_ok-append_parts-in-Some w ↦
          (let id_fits : FitsSigned w64 w.index-in-Some.result.now = search rules in
          let lat32 : FitsSigned w32 w.in-Some.lat = search rules in
          let lon32 : FitsSigned w32 w.in-Some.lon = search rules in
          let id_is = to_z-of_z w64 _ id_fits ∙ get_or_read c.args.sums.now.ids.items c.loop-i.i _ (omega arith) w.index-in-Some.ensures (pos 0) in
          let node : OsmNode = record { id = to_z w64 (of_z w64 w.index-in-Some.result.now); lat = to_z w32 (of_z w32 w.in-Some.lat); lon = to_z w32 (of_z w32 w.in-Some.lon); tags = c.read_group.new.tags.items } in
          let pushed = (w.nodes-is ∙ w.in_ok-append_parts-in-Some.ensures.ok ∙ ap (λ (t : List Tag). c.loop-i.nodes ++ decoded_node node.id node.lat node.lon t ∷ []) w.as_slice.ensures.value) in
          record {
            so_far = turn-placed (table_of c.args.texts.now) _ _ c.args.scale c.args.at _ c.loop-i.misplaced _ c.loop-i.nodes _ c.args.sums.now.ids.items c.args.sums.now.lats.items c.args.sums.now.lons.items c.loop-i.i c.loop-i.rest.now c.in_ok-rest.rest.now c.read_group.new.tags.items
                (to_z w64 (of_z w64 w.index-in-Some.result.now)) (to_z w64 (of_z w64 c.index.result.now)) (to_z w64 (of_z w64 c.index-in-loop-i.result.now)) node
                c.loop-i.invariant.so_far kept
                (record { within_ids = h; within_lats = omega arith; within_lons = omega arith; id_is = id_is; lat_is = lat_is; lon_is = lon_is })
                read
                (w.in-Some.ensures.placed _ _ ∙ ap (λ n. Ok n) (same_node _ _ _ _ _ _ (sym (to_z-of_z w32 _ lat32)) (sym (to_z-of_z w32 _ lon32))))
                w.misplaced-is
                pushed;
            fits = NodesSoFar-placed _ _ _ c.loop-i.i c.args.keys_values.now _ _ node c.read_group.new.tags.items c.loop-i.invariant.fits few refl pushed;
          })
      | in-None w ↦
          (let id_fits : FitsSigned w64 w.index-in-None.result.now = search rules in
          let id_is = to_z-of_z w64 _ id_fits ∙ get_or_read c.args.sums.now.ids.items c.loop-i.i _ (omega arith) w.index-in-None.ensures (pos 0) in
          record {
            so_far = turn-misplaced (table_of c.args.texts.now) _ _ c.args.scale c.args.at _ c.loop-i.misplaced _ c.loop-i.nodes _ c.args.sums.now.ids.items c.args.sums.now.lats.items c.args.sums.now.lons.items c.loop-i.i c.loop-i.rest.now c.in_ok-rest.rest.now c.read_group.new.tags.items
                (to_z w64 (of_z w64 w.index-in-None.result.now)) (to_z w64 (of_z w64 c.index.result.now)) (to_z w64 (of_z w64 c.index-in-loop-i.result.now))
                c.loop-i.invariant.so_far kept
                (record { within_ids = h; within_lats = omega arith; within_lons = omega arith; id_is = id_is; lat_is = lat_is; lon_is = lon_is })
                read
                (w.in-None.ensures.misplaced _ _)
                (w.misplaced-is ∙ w.or-misplaced.ensures)
                w.nodes-is;
            fits = NodesSoFar-misplaced _ _ _ c.loop-i.i c.args.keys_values.now _ _ c.read_group.new.tags.items c.loop-i.invariant.fits few w.nodes-is;
          })
    ]

pub returns-in-Some-misplaced-clause-nodes : goal.returns-in-Some-misplaced-clause-nodes
returns-in-Some-misplaced-clause-nodes c =
    let fits : FitsSigned w64 c.in-Some-misplaced.id = search rules in
    whole-bad _ _ _ _ (DenseSoFar-end (table_of c.args.texts.now) _ c.args.scale c.args.at _ _ _ c.args.sums.now.ids.items c.args.sums.now.lats.items c.args.sums.now.lons.items c.loop-i.i _ c.loop-i.invariant.so_far (omega arith)) c.in-Some-misplaced.is
    ∙ ap (λ id. Err (BadCoordinate id)) (sym (to_z-of_z w64 _ fits))
