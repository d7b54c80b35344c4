-- No fault of objects is want of memory.
use Rattle.std.specs.Prelude.{◌==◌, ◌&&◌}
use Rattle.osm_objects.specs.Scales.{units_of, is_within}
use Rattle.std.proofs.Common.{ℕ, zero, suc, ℤ, pos, ◌+ℤ◌, Bool, true, false, cond, List, [], ◌∷◌, length, Option, Some, None, Result, Ok, Err}
use Rattle.std.specs.Prelude.{slice_get}
use Rattle.std.specs.List.{last_or}
use Rattle.std.specs.Str.{is_utf8}
use Rattle.wire_read.specs.ZigZag.{unzigzag_of}
use Rattle.osm_messages.specs.declared.kind.ObjectKind.{ObjectKind}
use Rattle.osm_messages.specs.declared.kind.ObjectKind.TheVariants as object_kinds
use Rattle.osm_messages.specs.Groups.{Object}
use Rattle.osm_messages.specs.Blocks.{Block}
use Rattle.osm_messages.specs.Lists.{Lists}
use Rattle.osm_messages.specs.RawNumbers.{NodeNumbers, node_numbers, DenseNumbers, dense_numbers, WayNumbers, way_numbers, RelationNumbers, relation_numbers}
use Rattle.osm_model.specs.declared.tags.Tag.{Tag}
use Rattle.osm_model.specs.declared.relations.MemberKind.{MemberKind}
use Rattle.osm_objects.specs.declared.fault.ObjectFault.{ObjectFault}
use Rattle.osm_objects.specs.declared.scale.Scale.{Scale}
use Rattle.osm_objects.specs.Steps.{◌>>=◌, each, each_joined}
use Rattle.osm_objects.specs.Parts.{needed, one_number, as_many, pairs_of}
use Rattle.osm_objects.specs.Sums.{fits_i64, sums_from, sums_of}
use Rattle.osm_objects.specs.Tags.{found, bytes_at, text_at, kept_tag, dropped_tag, keeps, tag_of, tags_of}
use Rattle.osm_objects.specs.Groups.{groups_in, exactly, groups_of}
use Rattle.osm_objects.specs.Coordinates.{placed, node_at}
use Rattle.osm_objects.specs.Nodes.{decoded_node, nodes_at, grouped_nodes, decoded_dense_nodes}
use Rattle.osm_objects.specs.Ways.{decoded_way}
use Rattle.osm_objects.specs.Relations.{member_kind_of, members_of, decoded_relation}
use Rattle.osm_objects.specs.Objects.{Objects, no_objects, lists_in, meaning_of, with_object, with_objects, scale_of, table_of, objects_of}
use Rattle.osm_objects.specs.declared.fault.ObjectFault.TheVariants as faults

-- a value, or a fault other than want of memory
abbrev pub Meant : {A : Type 0} → Result A ObjectFault → Type 0
Meant (Ok x) = Unit {0}
Meant (Err (faults.MissingField at number)) = Unit {0}
Meant (Err (faults.Uneven at)) = Unit {0}
Meant (Err (faults.BadNumber at)) = Unit {0}
Meant (Err (faults.BadString at index)) = Unit {0}
Meant (Err (faults.BadCoordinate id)) = Unit {0}
Meant (Err faults.OutOfMemory) = ⊥

-- one of two things, whichever it is
pub either : {A : Type 0} (P : A → Type 0) (b : Bool) (x y : A) → P x → P y → P (cond b x y)
either P true x y p q = p
either P false x y p q = q

next-of : {A B : Type 0} (r : Result A ObjectFault) (f : A → Result B ObjectFault) → Meant r → ((x : A) → Meant (f x)) → Meant (r >>= f)
next-of (Ok x) f h k = k x
next-of (Err fault) f h k = h

each-of : {A B : Type 0} (f : A → Result B ObjectFault) → ((x : A) → Meant (f x)) → (xs : List A) → Meant (each f xs)
each-of f h [] = tt
each-of f h (x ∷ xs) = next-of (f x) _ (h x) (λ y. next-of (each f xs) _ (each-of f h xs) (λ ys. tt))

each_joined-of : {A B : Type 0} (f : A → Result (List B) ObjectFault) → ((x : A) → Meant (f x)) → (xs : List A) → Meant (each_joined f xs)
each_joined-of f h [] = tt
each_joined-of f h (x ∷ xs) = next-of (f x) _ (h x) (λ ys. next-of (each_joined f xs) _ (each_joined-of f h xs) (λ more. tt))

needed-of : (at number : ℕ) (n : Option ℕ) → Meant (needed at number n)
needed-of at number None = tt
needed-of at number (Some n) = tt

one_number-of : (at number : ℕ) (numbers : List ℕ) → Meant (one_number at number numbers)
one_number-of at number numbers = needed-of at number (last_or None numbers)

as_many-of : {A B : Type 0} (at : ℕ) (xs : List A) (ys : List B) → Meant (as_many at xs ys)
as_many-of at xs ys = either Meant (length xs == length ys) (Ok tt) (Err (faults.Uneven at)) tt tt

pairs_of-of : (at : ℕ) (keys values : List ℕ) → Meant (pairs_of at keys values)
pairs_of-of at keys values = next-of (as_many at keys values) _ (as_many-of at keys values) (λ even. tt)

sums_from-of : (at : ℕ) (last : ℤ) (ns : List ℕ) → Meant (sums_from at last ns)
sums_from-of at last [] = tt
sums_from-of at last (n ∷ ns) =
    either Meant (fits_i64 (last +ℤ unzigzag_of n)) _ _ (next-of (sums_from at (last +ℤ unzigzag_of n) ns) _ (sums_from-of at (last +ℤ unzigzag_of n) ns) (λ others. tt)) tt

found-of : (at index : ℕ) (bytes : Option (List ℕ)) → Meant (found at index bytes)
found-of at index None = tt
found-of at index (Some bytes) = tt

bytes_at-of : (table : List (List ℕ)) (at index : ℕ) → Meant (bytes_at table at index)
bytes_at-of table at index = found-of at index (slice_get table index)

text_at-of : (table : List (List ℕ)) (at index : ℕ) → Meant (text_at table at index)
text_at-of table at index = next-of (bytes_at table at index) _ (bytes_at-of table at index) (λ bytes. either Meant (is_utf8 bytes) _ _ tt tt)

tag_of-of : (table : List (List ℕ)) (at : ℕ) (pair : ℕ × ℕ) → Meant (tag_of table at pair)
unfolding tag_of
tag_of-of table at pair =
    next-of (keeps table at pair.0) _ (next-of (bytes_at table at pair.0) _ (bytes_at-of table at pair.0) (λ key. tt))
    (λ kept. either Meant kept (kept_tag table at pair) (dropped_tag table at pair)
    (next-of (text_at table at pair.0) _ (text_at-of table at pair.0) (λ key. next-of (text_at table at pair.1) _ (text_at-of table at pair.1) (λ value. tt)))
    (next-of (bytes_at table at pair.1) _ (bytes_at-of table at pair.1) (λ value. tt)))

tags_of-of : (table : List (List ℕ)) (at : ℕ) (pairs : List (ℕ × ℕ)) → Meant (tags_of table at pairs)
tags_of-of table at pairs = each_joined-of (tag_of table at) (tag_of-of table at) pairs

exactly-of : (at count : ℕ) (groups : Option (List (List (ℕ × ℕ)))) → Meant (exactly at count groups)
exactly-of at count None = tt
exactly-of at count (Some groups) = either Meant (length groups == count) (Ok groups) (Err (faults.Uneven at)) tt tt

groups_of-of : (at count : ℕ) (numbers : List ℕ) → Meant (groups_of at count numbers)
groups_of-of at count [] = tt
groups_of-of at count (n ∷ ns) = exactly-of at count (groups_in (n ∷ ns))

placed-of : (id lat lon : ℤ) (tags : List Tag) → Meant (placed id lat lon tags)
placed-of id lat lon tags =
    either Meant (is_within (pos 900_000_000) lat && is_within (pos 1_800_000_000) lon) (Ok (record { id = id; lat = lat; lon = lon; tags = tags })) (Err (faults.BadCoordinate id)) tt tt

node_at-of : (scale : Scale) (id lat lon : ℤ) (tags : List Tag) → Meant (node_at scale id lat lon tags)
unfolding node_at
node_at-of scale id lat lon tags =
    placed-of id (units_of scale.granularity scale.lat_offset lat) (units_of scale.granularity scale.lon_offset lon) tags

decoded_node-of : (table : List (List ℕ)) (scale : Scale) (at : ℕ) (raw : NodeNumbers) → Meant (decoded_node table scale at raw)
unfolding decoded_node
decoded_node-of table scale at raw =
    next-of (one_number at 1 raw.id) _ (one_number-of at 1 raw.id)
    (λ id. next-of (one_number at 8 raw.lat) _ (one_number-of at 8 raw.lat)
    (λ lat. next-of (one_number at 9 raw.lon) _ (one_number-of at 9 raw.lon)
    (λ lon. next-of (pairs_of at raw.keys raw.vals) _ (pairs_of-of at raw.keys raw.vals)
    (λ pairs. next-of (tags_of table at pairs) _ (tags_of-of table at pairs)
    (λ tags. node_at-of scale (unzigzag_of id) (unzigzag_of lat) (unzigzag_of lon) tags)))))

nodes_at-of : (scale : Scale) (ids lats lons : List ℤ) (tag_lists : List (List Tag)) → Meant (nodes_at scale ids lats lons tag_lists)
nodes_at-of scale (id ∷ ids) (lat ∷ lats) (lon ∷ lons) (tags ∷ tag_lists) =
    next-of (node_at scale id lat lon tags) _ (node_at-of scale id lat lon tags)
    (λ node. next-of (nodes_at scale ids lats lons tag_lists) _ (nodes_at-of scale ids lats lons tag_lists) (λ nodes. tt))
nodes_at-of scale _ _ _ _ = tt

grouped_nodes-of : (table : List (List ℕ)) (scale : Scale) (at : ℕ) (groups : List (List (ℕ × ℕ))) (ids lats lons : List ℤ) → Meant (grouped_nodes table scale at groups ids lats lons)
unfolding grouped_nodes
grouped_nodes-of table scale at groups ids lats lons =
    next-of (each (tags_of table at) groups) _ (each-of (tags_of table at) (tags_of-of table at) groups) (λ tag_lists. nodes_at-of scale ids lats lons tag_lists)

decoded_dense_nodes-of : (table : List (List ℕ)) (scale : Scale) (at : ℕ) (raw : DenseNumbers) → Meant (decoded_dense_nodes table scale at raw)
unfolding decoded_dense_nodes
decoded_dense_nodes-of table scale at raw =
    next-of (as_many at raw.id raw.lat) _ (as_many-of at raw.id raw.lat)
    (λ lats_even. next-of (as_many at raw.id raw.lon) _ (as_many-of at raw.id raw.lon)
    (λ lons_even. next-of (groups_of at (length raw.id) raw.keys_vals) _ (groups_of-of at (length raw.id) raw.keys_vals)
    (λ groups. next-of (sums_of at raw.id) _ (sums_from-of at (pos 0) raw.id)
    (λ ids. next-of (sums_of at raw.lat) _ (sums_from-of at (pos 0) raw.lat)
    (λ lats. next-of (sums_of at raw.lon) _ (sums_from-of at (pos 0) raw.lon)
    (λ lons. grouped_nodes-of table scale at groups ids lats lons))))))

decoded_way-of : (table : List (List ℕ)) (at : ℕ) (raw : WayNumbers) → Meant (decoded_way table at raw)
unfolding decoded_way
decoded_way-of table at raw =
    next-of (one_number at 1 raw.id) _ (one_number-of at 1 raw.id)
    (λ id. next-of (pairs_of at raw.keys raw.vals) _ (pairs_of-of at raw.keys raw.vals)
    (λ pairs. next-of (sums_of at raw.refs) _ (sums_from-of at (pos 0) raw.refs)
    (λ refs. next-of (tags_of table at pairs) _ (tags_of-of table at pairs) (λ tags. tt))))

member_kind_of-of : (at n : ℕ) → Meant (member_kind_of at n)
member_kind_of-of at zero = tt
member_kind_of-of at (suc zero) = tt
member_kind_of-of at (suc (suc zero)) = tt
member_kind_of-of at (suc (suc (suc n))) = tt

members_of-of : (table : List (List ℕ)) (at : ℕ) (roles : List ℕ) (ids : List ℤ) (types : List MemberKind) → Meant (members_of table at roles ids types)
members_of-of table at (role ∷ roles) (id ∷ ids) (kind ∷ types) =
    next-of (text_at table at role) _ (text_at-of table at role) (λ text. next-of (members_of table at roles ids types) _ (members_of-of table at roles ids types) (λ members. tt))
members_of-of table at _ _ _ = tt

decoded_relation-of : (table : List (List ℕ)) (at : ℕ) (raw : RelationNumbers) → Meant (decoded_relation table at raw)
unfolding decoded_relation
decoded_relation-of table at raw =
    next-of (one_number at 1 raw.id) _ (one_number-of at 1 raw.id)
    (λ id. next-of (pairs_of at raw.keys raw.vals) _ (pairs_of-of at raw.keys raw.vals)
    (λ pairs. next-of (as_many at raw.roles_sid raw.memids) _ (as_many-of at raw.roles_sid raw.memids)
    (λ ids_even. next-of (as_many at raw.roles_sid raw.types) _ (as_many-of at raw.roles_sid raw.types)
    (λ types_even. next-of (each (member_kind_of at) raw.types) _ (each-of (member_kind_of at) (member_kind_of-of at) raw.types)
    (λ types. next-of (sums_of at raw.memids) _ (sums_from-of at (pos 0) raw.memids)
    (λ ids. next-of (tags_of table at pairs) _ (tags_of-of table at pairs)
    (λ tags. next-of (members_of table at raw.roles_sid ids types) _ (members_of-of table at raw.roles_sid ids types) (λ members. tt))))))))

meaning_of-of : (kind : ObjectKind) (table : List (List ℕ)) (scale : Scale) (at : ℕ) (lists : Lists) → Meant (meaning_of kind table scale at lists)
meaning_of-of object_kinds.Node table scale at lists = next-of (decoded_node table scale at (node_numbers lists)) _ (decoded_node-of table scale at (node_numbers lists)) (λ node. tt)
meaning_of-of object_kinds.DenseNodes table scale at lists = next-of (decoded_dense_nodes table scale at (dense_numbers lists)) _ (decoded_dense_nodes-of table scale at (dense_numbers lists)) (λ nodes. tt)
meaning_of-of object_kinds.Way table scale at lists = next-of (decoded_way table at (way_numbers lists)) _ (decoded_way-of table at (way_numbers lists)) (λ way. tt)
meaning_of-of object_kinds.Relation table scale at lists = next-of (decoded_relation table at (relation_numbers lists)) _ (decoded_relation-of table at (relation_numbers lists)) (λ relation. tt)

with_objects-of : (table : List (List ℕ)) (scale : Scale) (before : Objects) (objects : List Object) → Meant (with_objects table scale before objects)
with_objects-of table scale before [] = tt
with_objects-of table scale before (object ∷ objects) =
    next-of (with_object table scale before object) _
    (next-of (meaning_of object.kind table scale object.at (lists_in object)) _ (meaning_of-of object.kind table scale object.at (lists_in object)) (λ more. tt))
    (λ now. with_objects-of table scale now objects)

table_of-of : (at : ℕ) (table : Option (List (List ℕ))) → Meant (table_of at table)
table_of-of at None = tt
table_of-of at (Some table) = tt

pub objects_of-of : (at : ℕ) (block : Block) → Meant (objects_of at block)
unfolding objects_of
objects_of-of at block = next-of (table_of at block.texts) _ (table_of-of at block.texts) (λ table. with_objects-of table (scale_of block) no_objects block.objects)
