use Rattle.std.proofs.Common.{rules, ◌∙◌, sym, w32, w64, FitsSigned}
use Rattle.std.proofs.lemmas.Int.{to_z-of_z}
use Rattle.osm_messages.specs.Lists.{seen_lists}
use Rattle.osm_messages.specs.Seen.{seen_object}
use Rattle.osm_objects.specs.Seen.{table_of, seen_objects}
use Rattle.osm_objects.proofs.Exits.{Becomes-exit}
use Rattle.osm_objects.proofs.BlockLoop.{became, Read, node-fault, node-pushed, way-fault, way-pushed, relation-fault, relation-pushed, dense-fault, dense-added}
use Rattle.osm_objects.proofs.Counted.{node-fits, way-fits, relation-fits, dense-fits}
use Rattle.osm_objects.proofs.objects.add_object.Goals as goal

pub returns-in_err-spot-in-Node-clause-objects : goal.returns-in_err-spot-in-Node-clause-objects
returns-in_err-spot-in-Node-clause-objects c =
    let read : Read (seen_object c.args.object.now) (seen_lists c.read_numbers.new.lists) = became _ _ _ c.read_numbers.ensures (sym c.is_err.ensures.value ∙ c.if-is_err.false) in
    Becomes-exit _ _ _ _ _ c.from_residual.ensures.1 (rw c.node-raw.ensures at c.in_err-spot-in-Node.ensures.node)
    (λ d e. node-fault (table_of c.args.texts.now) c.args.scale (seen_objects c.args.lists.now) (seen_object c.args.object.now) _ d c.in-Node.is read e)

pub returns-in_err-add_dense_nodes-in-DenseNodes-clause-objects : goal.returns-in_err-add_dense_nodes-in-DenseNodes-clause-objects
returns-in_err-add_dense_nodes-in-DenseNodes-clause-objects c =
    let read : Read (seen_object c.args.object.now) (seen_lists c.read_numbers.new.lists) = became _ _ _ c.read_numbers.ensures (sym c.is_err.ensures.value ∙ c.if-is_err.false) in
    Becomes-exit _ _ _ _ _ c.from_residual-in_err-add_dense_nodes-in-DenseNodes.ensures.1 (rw c.dense_nodes-raw.ensures at c.in_err-add_dense_nodes-in-DenseNodes.ensures.nodes)
    (λ d e. dense-fault (table_of c.args.texts.now) c.args.scale (seen_objects c.args.lists.now) (seen_object c.args.object.now) _ d c.in-DenseNodes.is read e)

pub returns-in_err-id-in-Way-clause-objects : goal.returns-in_err-id-in-Way-clause-objects
returns-in_err-id-in-Way-clause-objects c =
    let read : Read (seen_object c.args.object.now) (seen_lists c.read_numbers.new.lists) = became _ _ _ c.read_numbers.ensures (sym c.is_err.ensures.value ∙ c.if-is_err.false) in
    Becomes-exit _ _ _ _ _ c.from_residual-in_err-id-in-Way.ensures.1 (rw c.way-raw.ensures at c.in_err-id-in-Way.ensures.way)
    (λ d e. way-fault (table_of c.args.texts.now) c.args.scale (seen_objects c.args.lists.now) (seen_object c.args.object.now) _ d c.in-Way.is read e)

pub returns-in_err-id-in-Relation-clause-objects : goal.returns-in_err-id-in-Relation-clause-objects
returns-in_err-id-in-Relation-clause-objects c =
    let read : Read (seen_object c.args.object.now) (seen_lists c.read_numbers.new.lists) = became _ _ _ c.read_numbers.ensures (sym c.is_err.ensures.value ∙ c.if-is_err.false) in
    Becomes-exit _ _ _ _ _ c.from_residual-in_err-id-in-Relation.ensures.1 (rw c.relation-raw.ensures at c.in_err-id-in-Relation.ensures.relation)
    (λ d e. relation-fault (table_of c.args.texts.now) c.args.scale (seen_objects c.args.lists.now) (seen_object c.args.object.now) _ d c.in-Relation.is read e)

pub returns-in_ok-append_parts-in-Node-clause-objects : goal.returns-in_ok-append_parts-in-Node-clause-objects
returns-in_ok-append_parts-in-Node-clause-objects c =
    let read : Read (seen_object c.args.object.now) (seen_lists c.read_numbers.new.lists) = became _ _ _ c.read_numbers.ensures (sym c.is_err.ensures.value ∙ c.if-is_err.false) in
    let id : FitsSigned w64 c.in_ok-spot-in-Node.spot.id = search rules in
    let lat : FitsSigned w32 c.in_ok-spot-in-Node.spot.lat = search rules in
    let lon : FitsSigned w32 c.in_ok-spot-in-Node.spot.lon = search rules in
    node-pushed (table_of c.args.texts.now) c.args.scale (seen_objects c.args.lists.now) (seen_object c.args.object.now) _ c.in_ok-spot-in-Node.spot _ _ _ _ _ _ c.in-Node.is read (rw c.node-raw.ensures at c.in_ok-spot-in-Node.ensures.node) (to_z-of_z w64 _ id) (to_z-of_z w32 _ lat) (to_z-of_z w32 _ lon) c.as_slice.ensures.value c.in_ok-append_parts-in-Node.ensures.ok

pub returns-in_ok-append_parts-in-Way-clause-objects : goal.returns-in_ok-append_parts-in-Way-clause-objects
returns-in_ok-append_parts-in-Way-clause-objects c =
    let read : Read (seen_object c.args.object.now) (seen_lists c.read_numbers.new.lists) = became _ _ _ c.read_numbers.ensures (sym c.is_err.ensures.value ∙ c.if-is_err.false) in
    let id : FitsSigned w64 c.in_ok-id-in-Way.id = search rules in
    way-pushed (table_of c.args.texts.now) c.args.scale (seen_objects c.args.lists.now) (seen_object c.args.object.now) _ c.in_ok-id-in-Way.id _ _ _ _ _ _ c.in-Way.is read (rw c.way-raw.ensures at c.in_ok-id-in-Way.ensures.way) (to_z-of_z w64 _ id) c.as_slice-in-Way.ensures.value c.as_slice-refs.ensures.value c.in_ok-append_parts-in-Way.ensures.ok

pub returns-in_ok-append_parts-in-Relation-clause-objects : goal.returns-in_ok-append_parts-in-Relation-clause-objects
returns-in_ok-append_parts-in-Relation-clause-objects c =
    let read : Read (seen_object c.args.object.now) (seen_lists c.read_numbers.new.lists) = became _ _ _ c.read_numbers.ensures (sym c.is_err.ensures.value ∙ c.if-is_err.false) in
    let id : FitsSigned w64 c.in_ok-id-in-Relation.id = search rules in
    relation-pushed (table_of c.args.texts.now) c.args.scale (seen_objects c.args.lists.now) (seen_object c.args.object.now) _ c.in_ok-id-in-Relation.id _ _ _ _ _ _ c.in-Relation.is read (rw c.relation-raw.ensures at c.in_ok-id-in-Relation.ensures.relation) (to_z-of_z w64 _ id) c.as_slice-in-Relation.ensures.value c.as_slice-members.ensures.value c.in_ok-append_parts-in-Relation.ensures.ok

pub returns-in_ok-add_dense_nodes-in-DenseNodes-clause-objects : goal.returns-in_ok-add_dense_nodes-in-DenseNodes-clause-objects
returns-in_ok-add_dense_nodes-in-DenseNodes-clause-objects c =
    let read : Read (seen_object c.args.object.now) (seen_lists c.read_numbers.new.lists) = became _ _ _ c.read_numbers.ensures (sym c.is_err.ensures.value ∙ c.if-is_err.false) in
    dense-added (table_of c.args.texts.now) c.args.scale (seen_objects c.args.lists.now) (seen_object c.args.object.now) _ _ c.in-DenseNodes.is read (rw c.dense_nodes-raw.ensures at c.in_ok-add_dense_nodes-in-DenseNodes.ensures.nodes)

pub append_parts-requires : goal.append_parts-requires
append_parts-requires c =
    let read : Read (seen_object c.args.object.now) (seen_lists c.read_numbers.new.lists) = became _ _ _ c.read_numbers.ensures (sym c.is_err.ensures.value ∙ c.if-is_err.false) in
    node-fits (table_of c.args.texts.now) c.args.scale (seen_objects c.args.lists.now) (seen_object c.args.object.now) _ c.in_ok-spot-in-Node.spot _ _ read (rw c.node-raw.ensures at c.in_ok-spot-in-Node.ensures.node) c.as_slice.ensures.value c.requires.room

pub add_dense_nodes-requires-clause-places : goal.add_dense_nodes-requires-clause-places
add_dense_nodes-requires-clause-places c =
    let read : Read (seen_object c.args.object.now) (seen_lists c.read_numbers.new.lists) = became _ _ _ c.read_numbers.ensures (sym c.is_err.ensures.value ∙ c.if-is_err.false) in
    (dense-fits (seen_objects c.args.lists.now) (seen_object c.args.object.now) (seen_lists c.read_numbers.new.lists) _ read c.dense_nodes-raw.ensures c.requires.room).0

pub add_dense_nodes-requires-clause-room : goal.add_dense_nodes-requires-clause-room
add_dense_nodes-requires-clause-room c =
    let read : Read (seen_object c.args.object.now) (seen_lists c.read_numbers.new.lists) = became _ _ _ c.read_numbers.ensures (sym c.is_err.ensures.value ∙ c.if-is_err.false) in
    (dense-fits (seen_objects c.args.lists.now) (seen_object c.args.object.now) (seen_lists c.read_numbers.new.lists) _ read c.dense_nodes-raw.ensures c.requires.room).1

pub append_parts-requires-in-Way : goal.append_parts-requires-in-Way
append_parts-requires-in-Way c =
    let read : Read (seen_object c.args.object.now) (seen_lists c.read_numbers.new.lists) = became _ _ _ c.read_numbers.ensures (sym c.is_err.ensures.value ∙ c.if-is_err.false) in
    way-fits (table_of c.args.texts.now) (seen_objects c.args.lists.now) (seen_object c.args.object.now) _ c.in_ok-id-in-Way.id _ _ _ _ read (rw c.way-raw.ensures at c.in_ok-id-in-Way.ensures.way) c.as_slice-in-Way.ensures.value c.as_slice-refs.ensures.value c.requires.room

pub append_parts-requires-in-Relation : goal.append_parts-requires-in-Relation
append_parts-requires-in-Relation c =
    let read : Read (seen_object c.args.object.now) (seen_lists c.read_numbers.new.lists) = became _ _ _ c.read_numbers.ensures (sym c.is_err.ensures.value ∙ c.if-is_err.false) in
    relation-fits (table_of c.args.texts.now) (seen_objects c.args.lists.now) (seen_object c.args.object.now) _ c.in_ok-id-in-Relation.id _ _ _ _ read (rw c.relation-raw.ensures at c.in_ok-id-in-Relation.ensures.relation) c.as_slice-in-Relation.ensures.value c.as_slice-members.ensures.value c.requires.room
