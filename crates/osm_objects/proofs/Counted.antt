-- An object has at most as many parts as there are numbers in its message, and these are at most its bytes.
use Rattle.std.proofs.Common.{◌≡◌, ℕ, ℤ, zero, suc, ◌+◌, ◌<◌, ◌≤◌, ◌^◌, Bool, true, false, cond, eqb, pos, ◌&&◌, List, [], ◌∷◌, ◌++◌, length, map, get_or, drop, replicate, Option, Some, None, Result, Ok, Err, IfOk, refl, sym, ap, ◌∙◌, arith, length-append}
use Rattle.std.specs.List.{sum_by, zip}
use Rattle.std.specs.Option.{option_and_then}
use Rattle.std.specs.Int.{w64, cast_signed}
use Rattle.wire_read.specs.ZigZag.{unzigzag_of}
use Rattle.std.proofs.lemmas.Result.{IfOk-at_ok}
use Rattle.std.proofs.lemmas.List.Sums.{sum_by-cons, sum_by-append, sum_by_push}
use Rattle.std.proofs.lemmas.List.{drop_more, drop-map}
use Rattle.std.proofs.lemmas.Slice.Zip.{length-zip}
use Rattle.osm_messages.specs.declared.kind.ObjectKind.{ObjectKind}
use Rattle.osm_messages.specs.declared.kind.ObjectKind.TheVariants as kinds
use Rattle.osm_messages.specs.declared.object.RawObject.{RawObject}
use Rattle.osm_messages.specs.declared.fault.MessageFault.{MessageFault}
use Rattle.osm_messages.specs.Seen.{seen_object}
use Rattle.osm_messages.specs.Numbers.{shape_of, numbers_in}
use Rattle.osm_messages.specs.Groups.{Object}
use Rattle.osm_messages.specs.Blocks.{Block}
use Rattle.osm_messages.specs.Lists.{Lists, listed_numbers}
use Rattle.osm_messages.specs.RawNumbers.{NodeNumbers, node_numbers, DenseNumbers, dense_numbers, WayNumbers, way_numbers, RelationNumbers, relation_numbers}
use Rattle.osm_messages.specs.Sizes.{object_bytes, numbers_held}
use Rattle.osm_messages.proofs.Weights.{lists_in-few}
use Rattle.osm_model.specs.declared.tags.Tag.{Tag}
use Rattle.osm_model.specs.declared.nodes.OsmNode.{OsmNode}
use Rattle.osm_model.specs.declared.ways.OsmWay.{OsmWay}
use Rattle.osm_model.specs.declared.relations.Member.{Member}
use Rattle.osm_model.specs.declared.relations.MemberKind.{MemberKind}
use Rattle.osm_model.specs.declared.relations.OsmRelation.{OsmRelation}
use Rattle.osm_model.specs.Extract.{tags_of_nodes}
use Rattle.osm_model.specs.Room.{NodeFits, WayFits, RelationFits}
use Rattle.osm_objects.specs.declared.fault.ObjectFault.{ObjectFault}
use Rattle.osm_objects.specs.declared.fault.ObjectFault.TheVariants as faults
use Rattle.osm_objects.specs.declared.nodes.Spot.{Spot}
use Rattle.osm_objects.specs.declared.scale.Scale.{Scale}
use Rattle.osm_objects.specs.Steps.{◌>>=◌, each}
use Rattle.osm_objects.specs.Parts.{one_number, as_many, pairs_of}
use Rattle.osm_objects.specs.Sums.{sums_of}
use Rattle.osm_objects.specs.Tags.{text_at, bytes_at, keeps, kept_tag, dropped_tag, tag_of, tags_of}
use Rattle.osm_objects.specs.Groups.{into_first, groups_in, exactly, groups_of}
use Rattle.osm_objects.specs.FirstGroups.{first_group, behind_group, group_read}
use Rattle.osm_objects.specs.Scales.{units_of, is_within}
use Rattle.osm_objects.specs.Coordinates.{placed, node_at}
use Rattle.osm_objects.specs.Nodes.{decoded_node, nodes_at, grouped_nodes, decoded_dense_nodes}
use Rattle.osm_objects.specs.Ways.{decoded_way}
use Rattle.osm_objects.specs.Relations.{member_kind_of, members_of, decoded_relation}
use Rattle.osm_objects.specs.Objects.{Objects, no_objects, just_nodes, just_ways, just_relations, joined, joined_behind, spelled, lists_in, meaning_of, with_object, with_objects, scale_of, table_of, objects_of}
use Rattle.osm_objects.specs.Seen.{node_with, way_with, relation_with}
use Rattle.osm_objects.specs.Sizes.{parts_in}
use Rattle.osm_objects.proofs.Results.{bind_any, bind_known}
use Rattle.osm_objects.proofs.Lengths.{sums-length}
use Rattle.osm_objects.proofs.DenseLoop.{group_read-gives}

-- ---- results

-- what holds of each value that is given
if_given : {A : Type 0} (P : A → Type 0) (r : Result A ObjectFault) → ((x : A) → r ≡ Ok x → P x) → IfOk r P
if_given P (Ok x) each = each x refl
if_given P (Err d) each = tt

if_so : {A : Type 0} (P Q : A → Type 0) (r : Result A ObjectFault) → IfOk r P → ((x : A) → P x → Q x) → IfOk r Q
if_so P Q (Ok x) known each = each x known
if_so P Q (Err d) known each = tt

either : {A : Type 0} (P : A → Type 0) (b : Bool) (r s : Result A ObjectFault) → IfOk r P → IfOk s P → IfOk (cond b r s) P
either P true r s p q = p
either P false r s p q = q

-- ---- tags

-- at most so many
abbrev AtMost : {A : Type 0} → ℕ → List A → Type 0
AtMost most xs = length xs ≤ most

abbrev tag_with : List ℕ → List ℕ → Result (List Tag) ObjectFault
tag_with key value = Ok (record { key = key; value = value } ∷ [])

abbrev no_tag : List ℕ → Result (List Tag) ObjectFault
no_tag value = Ok []

kept_tag-one : (table : List (List ℕ)) (at : ℕ) (pair : ℕ × ℕ) → IfOk (kept_tag table at pair) (AtMost 1)
kept_tag-one table at pair =
    bind_any (AtMost 1) (text_at table at pair.0) (λ key. text_at table at pair.1 >>= tag_with key)
    (λ key. bind_any (AtMost 1) (text_at table at pair.1) (tag_with key) (λ value. omega arith))

dropped_tag-none : (table : List (List ℕ)) (at : ℕ) (pair : ℕ × ℕ) → IfOk (dropped_tag table at pair) (AtMost 1)
dropped_tag-none table at pair = bind_any (AtMost 1) (bytes_at table at pair.1) no_tag (λ value. omega arith)

tag_of-one : (table : List (List ℕ)) (at : ℕ) (pair : ℕ × ℕ) → IfOk (tag_of table at pair) (AtMost 1)
unfolding tag_of
tag_of-one table at pair =
    bind_any (AtMost 1) (keeps table at pair.0) (λ kept. cond kept (kept_tag table at pair) (dropped_tag table at pair)) (λ kept. either (AtMost 1) kept (kept_tag table at pair) (dropped_tag table at pair) (kept_tag-one table at pair) (dropped_tag-none table at pair))

abbrev tags_with : List Tag → List Tag → Result (List Tag) ObjectFault
tags_with tags more = Ok (tags ++ more)

tags_of-few : (table : List (List ℕ)) (at : ℕ) (pairs : List (ℕ × ℕ)) → IfOk (tags_of table at pairs) (AtMost (length pairs))
tags_of-few table at [] = omega arith
tags_of-few table at (pair ∷ pairs) =
    bind_known (AtMost 1) (AtMost (suc (length pairs))) (tag_of table at pair) (λ tags. tags_of table at pairs >>= tags_with tags) (tag_of-one table at pair)
    (λ tags one. bind_known (AtMost (length pairs)) (AtMost (suc (length pairs))) (tags_of table at pairs) (tags_with tags) (tags_of-few table at pairs)
    (λ more few. omega (arith, one, few, length-append tags more)))

pairs_of-few : (at : ℕ) (keys values : List ℕ) → IfOk (pairs_of at keys values) (AtMost (length keys))
pairs_of-few at keys values =
    bind_any (AtMost (length keys)) (as_many at keys values) (λ even. Ok (zip keys values)) (λ even. omega (arith, length-zip keys values))

-- ---- one object

placed-tags : (id lat lon : ℤ) (tags : List Tag) → IfOk (placed id lat lon tags) (λ (node : OsmNode). length node.tags ≡ length tags)
placed-tags id lat lon tags =
    either (λ (node : OsmNode). length node.tags ≡ length tags) (is_within (pos 900_000_000) lat && is_within (pos 1_800_000_000) lon)
    (Ok (record { id = id; lat = lat; lon = lon; tags = tags })) (Err (faults.BadCoordinate id)) refl tt

node_at-tags : (scale : Scale) (id lat lon : ℤ) (tags : List Tag) → IfOk (node_at scale id lat lon tags) (λ (node : OsmNode). length node.tags ≡ length tags)
unfolding node_at
node_at-tags scale id lat lon tags =
    placed-tags id (units_of scale.granularity scale.lat_offset lat) (units_of scale.granularity scale.lon_offset lon) tags

one_number-there : (at field : ℕ) (numbers : List ℕ) → IfOk (one_number at field numbers) (λ n. 1 ≤ length numbers)
one_number-there at field [] = tt
one_number-there at field (n ∷ numbers) = if_given (λ (m : ℕ). 1 ≤ suc (length numbers)) (one_number at field (n ∷ numbers)) (λ m e. omega arith)

-- the node of these numbers, from each step on
abbrev node_of_tags : Scale → ℕ → ℕ → ℕ → List Tag → Result OsmNode ObjectFault
node_of_tags scale id lat lon tags = node_at scale (unzigzag_of id) (unzigzag_of lat) (unzigzag_of lon) tags

abbrev node_of_pairs : List (List ℕ) → Scale → ℕ → ℕ → ℕ → ℕ → List (ℕ × ℕ) → Result OsmNode ObjectFault
node_of_pairs table scale at id lat lon pairs = tags_of table at pairs >>= node_of_tags scale id lat lon

abbrev node_of_lon : List (List ℕ) → Scale → ℕ → NodeNumbers → ℕ → ℕ → ℕ → Result OsmNode ObjectFault
node_of_lon table scale at raw id lat lon = pairs_of at raw.keys raw.vals >>= node_of_pairs table scale at id lat lon

abbrev node_of_lat : List (List ℕ) → Scale → ℕ → NodeNumbers → ℕ → ℕ → Result OsmNode ObjectFault
node_of_lat table scale at raw id lat = one_number at 9 raw.lon >>= node_of_lon table scale at raw id lat

abbrev node_of_id : List (List ℕ) → Scale → ℕ → NodeNumbers → ℕ → Result OsmNode ObjectFault
node_of_id table scale at raw id = one_number at 8 raw.lat >>= node_of_lat table scale at raw id

abbrev FewInNode : NodeNumbers → OsmNode → Type 0
FewInNode raw node = 1 + length node.tags ≤ length raw.id + length raw.keys

node_of_pairs-few : (table : List (List ℕ)) (scale : Scale) (at : ℕ) (raw : NodeNumbers) (id lat lon : ℕ) (pairs : List (ℕ × ℕ)) → 1 ≤ length raw.id → length pairs ≤ length raw.keys → IfOk (node_of_pairs table scale at id lat lon pairs) (FewInNode raw)
node_of_pairs-few table scale at raw id lat lon pairs there few =
    bind_known (AtMost (length pairs)) (FewInNode raw) (tags_of table at pairs) (node_of_tags scale id lat lon) (tags_of-few table at pairs)
    (λ tags fewer. if_so (λ (node : OsmNode). length node.tags ≡ length tags) (FewInNode raw) (node_of_tags scale id lat lon tags) (node_at-tags scale (unzigzag_of id) (unzigzag_of lat) (unzigzag_of lon) tags)
    (λ node same. omega (arith, there, few, fewer, same)))

decoded_node-few : (table : List (List ℕ)) (scale : Scale) (at : ℕ) (raw : NodeNumbers) → IfOk (decoded_node table scale at raw) (FewInNode raw)
unfolding decoded_node
decoded_node-few table scale at raw =
    bind_known (λ (n : ℕ). 1 ≤ length raw.id) (FewInNode raw) (one_number at 1 raw.id) (node_of_id table scale at raw) (one_number-there at 1 raw.id)
    (λ id there. bind_any (FewInNode raw) (one_number at 8 raw.lat) (node_of_lat table scale at raw id)
    (λ lat. bind_any (FewInNode raw) (one_number at 9 raw.lon) (node_of_lon table scale at raw id lat)
    (λ lon. bind_known (AtMost (length raw.keys)) (FewInNode raw) (pairs_of at raw.keys raw.vals) (node_of_pairs table scale at id lat lon) (pairs_of-few at raw.keys raw.vals)
    (λ pairs few. node_of_pairs-few table scale at raw id lat lon pairs there few))))

sums_of-as_many : (at : ℕ) (differences : List ℕ) → IfOk (sums_of at differences) (λ sums. length sums ≡ length differences)
sums_of-as_many at differences = if_given (λ (sums : List ℤ). length sums ≡ length differences) (sums_of at differences) (λ sums e. sums-length at differences sums e)

-- the way of these numbers, from each step on
abbrev way_of_tags : ℕ → List ℤ → List Tag → Result OsmWay ObjectFault
way_of_tags id refs tags = Ok (record { id = cast_signed w64 id; tags = tags; refs = refs })

abbrev way_of_refs : List (List ℕ) → ℕ → ℕ → List (ℕ × ℕ) → List ℤ → Result OsmWay ObjectFault
way_of_refs table at id pairs refs = tags_of table at pairs >>= way_of_tags id refs

abbrev way_of_pairs : List (List ℕ) → ℕ → WayNumbers → ℕ → List (ℕ × ℕ) → Result OsmWay ObjectFault
way_of_pairs table at raw id pairs = sums_of at raw.refs >>= way_of_refs table at id pairs

abbrev way_of_id : List (List ℕ) → ℕ → WayNumbers → ℕ → Result OsmWay ObjectFault
way_of_id table at raw id = pairs_of at raw.keys raw.vals >>= way_of_pairs table at raw id

abbrev FewInWay : WayNumbers → OsmWay → Type 0
FewInWay raw way = length way.tags + length way.refs ≤ length raw.keys + length raw.refs

decoded_way-few : (table : List (List ℕ)) (at : ℕ) (raw : WayNumbers) → IfOk (decoded_way table at raw) (FewInWay raw)
unfolding decoded_way
decoded_way-few table at raw =
    bind_any (FewInWay raw) (one_number at 1 raw.id) (way_of_id table at raw)
    (λ id. bind_known (AtMost (length raw.keys)) (FewInWay raw) (pairs_of at raw.keys raw.vals) (way_of_pairs table at raw id) (pairs_of-few at raw.keys raw.vals)
    (λ pairs few. bind_known (λ (sums : List ℤ). length sums ≡ length raw.refs) (FewInWay raw) (sums_of at raw.refs) (way_of_refs table at id pairs) (sums_of-as_many at raw.refs)
    (λ refs many. bind_known (AtMost (length pairs)) (FewInWay raw) (tags_of table at pairs) (way_of_tags id refs) (tags_of-few table at pairs)
    (λ tags fewer. omega (arith, few, fewer, many)))))

abbrev member_with : ℤ → MemberKind → List ℕ → List Member → Result (List Member) ObjectFault
member_with id kind text members = Ok (record { role = text; kind = kind; id = id } ∷ members)

members_of-few : (table : List (List ℕ)) (at : ℕ) (roles : List ℕ) (ids : List ℤ) (types : List MemberKind) → IfOk (members_of table at roles ids types) (AtMost (length roles))
members_of-few table at (role ∷ roles) (id ∷ ids) (kind ∷ types) =
    bind_any (AtMost (suc (length roles))) (text_at table at role) (λ text. members_of table at roles ids types >>= member_with id kind text)
    (λ text. bind_known (AtMost (length roles)) (AtMost (suc (length roles))) (members_of table at roles ids types) (member_with id kind text) (members_of-few table at roles ids types)
    (λ members few. omega (arith, few)))
members_of-few table at _ _ _ = omega arith

-- the relation of these numbers, from each step on
abbrev relation_of_members : ℕ → List Tag → List Member → Result OsmRelation ObjectFault
relation_of_members id tags members = Ok (record { id = cast_signed w64 id; tags = tags; members = members })

abbrev relation_of_tags : List (List ℕ) → ℕ → RelationNumbers → ℕ → List MemberKind → List ℤ → List Tag → Result OsmRelation ObjectFault
relation_of_tags table at raw id types ids tags = members_of table at raw.roles_sid ids types >>= relation_of_members id tags

abbrev relation_of_ids : List (List ℕ) → ℕ → RelationNumbers → ℕ → List (ℕ × ℕ) → List MemberKind → List ℤ → Result OsmRelation ObjectFault
relation_of_ids table at raw id pairs types ids = tags_of table at pairs >>= relation_of_tags table at raw id types ids

abbrev relation_of_types : List (List ℕ) → ℕ → RelationNumbers → ℕ → List (ℕ × ℕ) → List MemberKind → Result OsmRelation ObjectFault
relation_of_types table at raw id pairs types = sums_of at raw.memids >>= relation_of_ids table at raw id pairs types

abbrev relation_of_even : List (List ℕ) → ℕ → RelationNumbers → ℕ → List (ℕ × ℕ) → Result OsmRelation ObjectFault
relation_of_even table at raw id pairs = each (member_kind_of at) raw.types >>= relation_of_types table at raw id pairs

abbrev relation_of_pairs : List (List ℕ) → ℕ → RelationNumbers → ℕ → List (ℕ × ℕ) → Result OsmRelation ObjectFault
relation_of_pairs table at raw id pairs = as_many at raw.roles_sid raw.memids >>= λ ids_even. as_many at raw.roles_sid raw.types >>= λ types_even. relation_of_even table at raw id pairs

abbrev relation_of_id : List (List ℕ) → ℕ → RelationNumbers → ℕ → Result OsmRelation ObjectFault
relation_of_id table at raw id = pairs_of at raw.keys raw.vals >>= relation_of_pairs table at raw id

abbrev FewInRelation : RelationNumbers → OsmRelation → Type 0
FewInRelation raw relation = length relation.tags + length relation.members ≤ length raw.keys + length raw.roles_sid

relation_of_even-few : (table : List (List ℕ)) (at : ℕ) (raw : RelationNumbers) (id : ℕ) (pairs : List (ℕ × ℕ)) → length pairs ≤ length raw.keys → IfOk (relation_of_even table at raw id pairs) (FewInRelation raw)
relation_of_even-few table at raw id pairs few =
    bind_any (FewInRelation raw) (each (member_kind_of at) raw.types) (relation_of_types table at raw id pairs)
    (λ types. bind_any (FewInRelation raw) (sums_of at raw.memids) (relation_of_ids table at raw id pairs types)
    (λ ids. bind_known (AtMost (length pairs)) (FewInRelation raw) (tags_of table at pairs) (relation_of_tags table at raw id types ids) (tags_of-few table at pairs)
    (λ tags fewer. bind_known (AtMost (length raw.roles_sid)) (FewInRelation raw) (members_of table at raw.roles_sid ids types) (relation_of_members id tags) (members_of-few table at raw.roles_sid ids types)
    (λ members many. omega (arith, few, fewer, many)))))

decoded_relation-few : (table : List (List ℕ)) (at : ℕ) (raw : RelationNumbers) → IfOk (decoded_relation table at raw) (FewInRelation raw)
unfolding decoded_relation
decoded_relation-few table at raw =
    bind_any (FewInRelation raw) (one_number at 1 raw.id) (relation_of_id table at raw)
    (λ id. bind_known (AtMost (length raw.keys)) (FewInRelation raw) (pairs_of at raw.keys raw.vals) (relation_of_pairs table at raw id) (pairs_of-few at raw.keys raw.vals)
    (λ pairs few. bind_any (FewInRelation raw) (as_many at raw.roles_sid raw.memids) (λ ids_even. as_many at raw.roles_sid raw.types >>= λ types_even. relation_of_even table at raw id pairs)
    (λ ids_even. bind_any (FewInRelation raw) (as_many at raw.roles_sid raw.types) (λ types_even. relation_of_even table at raw id pairs)
    (λ types_even. relation_of_even-few table at raw id pairs few))))

-- ---- a DenseNodes

abbrev lengths : {A : Type 0} → List (List A) → ℕ
lengths {A = A} lists = sum_by (λ (l : List A). length l) lists

groups_in-few : (numbers : List ℕ) → (groups : List (List (ℕ × ℕ))) → groups_in numbers ≡ Some groups → lengths groups ≤ length numbers
groups_in-few [] groups e = let same : [] ≡ groups = cc e in omega (arith, ap lengths (sym same))
groups_in-few (zero ∷ numbers) groups e = ended (groups_in numbers) (λ them f. groups_in-few numbers them f) e
  where
    ended : (r : Option (List (List (ℕ × ℕ)))) → ((them : List (List (ℕ × ℕ))) → r ≡ Some them → lengths them ≤ length numbers) → option_and_then (λ them. Some ([] ∷ them)) r ≡ Some groups → lengths groups ≤ suc (length numbers)
    ended (Some them) few f =
        let same : [] ∷ them ≡ groups = cc f in
        omega (arith, few them refl, ap lengths same, sum_by-cons (λ (l : List (ℕ × ℕ)). length l) [] them)
    ended None few f = absurd (cc f)
groups_in-few (suc key ∷ []) groups e = absurd (cc e)
groups_in-few (suc key ∷ value ∷ numbers) groups e = one_more (groups_in numbers) (λ them f. groups_in-few numbers them f) e
  where
    one_more : (r : Option (List (List (ℕ × ℕ)))) → ((them : List (List (ℕ × ℕ))) → r ≡ Some them → lengths them ≤ length numbers) → option_and_then (into_first (suc key, value)) r ≡ Some groups → lengths groups ≤ suc (suc (length numbers))
    one_more (Some []) few f = absurd (cc f)
    one_more (Some (g ∷ gs)) few f =
        let same : ((suc key, value) ∷ g) ∷ gs ≡ groups = cc f in
        omega (arith, few (g ∷ gs) refl, ap lengths same, sum_by-cons (λ (l : List (ℕ × ℕ)). length l) ((suc key, value) ∷ g) gs, sum_by-cons (λ (l : List (ℕ × ℕ)). length l) g gs)
    one_more None few f = absurd (cc f)

none_in : (count : ℕ) (group : List (ℕ × ℕ)) → length group ≡ 0 → lengths (replicate count group) ≡ 0
none_in zero group none = refl
none_in (suc count) group none = omega (arith, none, none_in count group none, sum_by-cons (λ (l : List (ℕ × ℕ)). length l) group (replicate count group))

exactly-few : (at count most : ℕ) (r : Option (List (List (ℕ × ℕ)))) → ((them : List (List (ℕ × ℕ))) → r ≡ Some them → lengths them ≤ most) → IfOk (exactly at count r) (λ groups. lengths groups ≤ most)
exactly-few at count most None few = tt
exactly-few at count most (Some them) few =
    either (λ (groups : List (List (ℕ × ℕ))). lengths groups ≤ most) (eqb (length them) count) (Ok them) (Err (faults.Uneven at)) (few them refl) tt

groups_of-few : (at count : ℕ) (numbers : List ℕ) → IfOk (groups_of at count numbers) (λ groups. lengths groups ≤ length numbers)
groups_of-few at count [] = omega (arith, none_in count [] refl)
groups_of-few at count (n ∷ ns) = exactly-few at count (length (n ∷ ns)) (groups_in (n ∷ ns)) (λ them e. groups_in-few (n ∷ ns) them e)

abbrev list_with : List Tag → List (List Tag) → Result (List (List Tag)) ObjectFault
list_with tags more = Ok (tags ∷ more)

tag_lists-few : (table : List (List ℕ)) (at : ℕ) (groups : List (List (ℕ × ℕ))) → IfOk (each (tags_of table at) groups) (λ tag_lists. lengths tag_lists ≤ lengths groups)
tag_lists-few table at [] = omega arith
tag_lists-few table at (g ∷ gs) =
    bind_known (AtMost (length g)) (λ (tag_lists : List (List Tag)). lengths tag_lists ≤ lengths (g ∷ gs)) (tags_of table at g) (λ tags. each (tags_of table at) gs >>= list_with tags) (tags_of-few table at g)
    (λ tags few. bind_known (λ (tag_lists : List (List Tag)). lengths tag_lists ≤ lengths gs) (λ (tag_lists : List (List Tag)). lengths tag_lists ≤ lengths (g ∷ gs)) (each (tags_of table at) gs) (list_with tags) (tag_lists-few table at gs)
    (λ more fewer. omega (arith, few, fewer, sum_by-cons (λ (l : List (ℕ × ℕ)). length l) g gs, sum_by-cons (λ (l : List Tag). length l) tags more)))

abbrev FewNodes : ℕ → ℕ → List OsmNode → Type 0
FewNodes places tags nodes = (length nodes ≤ places) × (tags_of_nodes nodes ≤ tags)

abbrev nodes_with : OsmNode → List OsmNode → Result (List OsmNode) ObjectFault
nodes_with node nodes = Ok (node ∷ nodes)

nodes_at-few : (scale : Scale) (ids lats lons : List ℤ) (tag_lists : List (List Tag)) → IfOk (nodes_at scale ids lats lons tag_lists) (FewNodes (length ids) (lengths tag_lists))
nodes_at-few scale (id ∷ ids) (lat ∷ lats) (lon ∷ lons) (tags ∷ tag_lists) =
    bind_known (λ (node : OsmNode). length node.tags ≡ length tags) (FewNodes (suc (length ids)) (lengths (tags ∷ tag_lists))) (node_at scale id lat lon tags) (λ node. nodes_at scale ids lats lons tag_lists >>= nodes_with node) (node_at-tags scale id lat lon tags)
    (λ node same. bind_known (FewNodes (length ids) (lengths tag_lists)) (FewNodes (suc (length ids)) (lengths (tags ∷ tag_lists))) (nodes_at scale ids lats lons tag_lists) (nodes_with node) (nodes_at-few scale ids lats lons tag_lists)
    (λ nodes few. (omega (arith, few.0), omega (arith, few.1, same, sum_by-cons (λ (n : OsmNode). length n.tags) node nodes, sum_by-cons (λ (l : List Tag). length l) tags tag_lists))))
nodes_at-few scale _ _ _ _ = (omega arith, omega arith)

-- the nodes of a DenseNodes, from each step on
abbrev dense_of_lons : List (List ℕ) → Scale → ℕ → List (List (ℕ × ℕ)) → List ℤ → List ℤ → List ℤ → Result (List OsmNode) ObjectFault
dense_of_lons table scale at groups ids lats lons = each (tags_of table at) groups >>= nodes_at scale ids lats lons

abbrev dense_of_ids : List (List ℕ) → Scale → ℕ → DenseNumbers → List (List (ℕ × ℕ)) → List ℤ → Result (List OsmNode) ObjectFault
dense_of_ids table scale at raw groups ids = sums_of at raw.lat >>= λ lats. sums_of at raw.lon >>= dense_of_lons table scale at groups ids lats

abbrev dense_of_groups : List (List ℕ) → Scale → ℕ → DenseNumbers → List (List (ℕ × ℕ)) → Result (List OsmNode) ObjectFault
dense_of_groups table scale at raw groups = sums_of at raw.id >>= dense_of_ids table scale at raw groups

abbrev dense_of_even : List (List ℕ) → Scale → ℕ → DenseNumbers → Result (List OsmNode) ObjectFault
dense_of_even table scale at raw = groups_of at (length raw.id) raw.keys_vals >>= dense_of_groups table scale at raw

abbrev FewInDense : DenseNumbers → List OsmNode → Type 0
FewInDense raw nodes = FewNodes (length raw.id) (length raw.keys_vals) nodes

dense_of_groups-few : (table : List (List ℕ)) (scale : Scale) (at : ℕ) (raw : DenseNumbers) (groups : List (List (ℕ × ℕ))) → lengths groups ≤ length raw.keys_vals → IfOk (dense_of_groups table scale at raw groups) (FewInDense raw)
dense_of_groups-few table scale at raw groups few =
    bind_known (λ (sums : List ℤ). length sums ≡ length raw.id) (FewInDense raw) (sums_of at raw.id) (dense_of_ids table scale at raw groups) (sums_of-as_many at raw.id)
    (λ ids many. bind_any (FewInDense raw) (sums_of at raw.lat) (λ lats. sums_of at raw.lon >>= dense_of_lons table scale at groups ids lats)
    (λ lats. bind_any (FewInDense raw) (sums_of at raw.lon) (dense_of_lons table scale at groups ids lats)
    (λ lons. bind_known (λ (tag_lists : List (List Tag)). lengths tag_lists ≤ lengths groups) (FewInDense raw) (each (tags_of table at) groups) (nodes_at scale ids lats lons) (tag_lists-few table at groups)
    (λ tag_lists fewer. if_so (FewNodes (length ids) (lengths tag_lists)) (FewInDense raw) (nodes_at scale ids lats lons tag_lists) (nodes_at-few scale ids lats lons tag_lists)
    (λ nodes all. (omega (arith, all.0, many), omega (arith, all.1, fewer, few)))))))

decoded_dense_nodes-few : (table : List (List ℕ)) (scale : Scale) (at : ℕ) (raw : DenseNumbers) → IfOk (decoded_dense_nodes table scale at raw) (FewInDense raw)
unfolding decoded_dense_nodes grouped_nodes
decoded_dense_nodes-few table scale at raw =
    bind_any (FewInDense raw) (as_many at raw.id raw.lat) (λ lats_even. as_many at raw.id raw.lon >>= λ lons_even. dense_of_even table scale at raw)
    (λ lats_even. bind_any (FewInDense raw) (as_many at raw.id raw.lon) (λ lons_even. dense_of_even table scale at raw)
    (λ lons_even. bind_known (λ (groups : List (List (ℕ × ℕ))). lengths groups ≤ length raw.keys_vals) (FewInDense raw) (groups_of at (length raw.id) raw.keys_vals) (dense_of_groups table scale at raw) (groups_of-few at (length raw.id) raw.keys_vals)
    (λ groups few. dense_of_groups-few table scale at raw groups few)))

-- ---- objects

abbrev PartsAtMost : ℕ → Objects → Type 0
PartsAtMost most objects = parts_in objects ≤ most

meaning_of-few : (kind : ObjectKind) (table : List (List ℕ)) (scale : Scale) (at : ℕ) (lists : Lists) → IfOk (meaning_of kind table scale at lists) (PartsAtMost (numbers_held lists))
meaning_of-few kinds.Node table scale at lists =
    bind_known (FewInNode (node_numbers lists)) (PartsAtMost (numbers_held lists)) (decoded_node table scale at (node_numbers lists)) (λ node. Ok (just_nodes (node ∷ []))) (decoded_node-few table scale at (node_numbers lists))
    (λ node few. omega (arith, few))
meaning_of-few kinds.DenseNodes table scale at lists =
    bind_known (FewInDense (dense_numbers lists)) (PartsAtMost (numbers_held lists)) (decoded_dense_nodes table scale at (dense_numbers lists)) (λ nodes. Ok (just_nodes nodes)) (decoded_dense_nodes-few table scale at (dense_numbers lists))
    (λ nodes few. omega (arith, few.0, few.1))
meaning_of-few kinds.Way table scale at lists =
    bind_known (FewInWay (way_numbers lists)) (PartsAtMost (numbers_held lists)) (decoded_way table at (way_numbers lists)) (λ way. Ok (just_ways (way ∷ []))) (decoded_way-few table at (way_numbers lists))
    (λ way few. omega (arith, few))
meaning_of-few kinds.Relation table scale at lists =
    bind_known (FewInRelation (relation_numbers lists)) (PartsAtMost (numbers_held lists)) (decoded_relation table at (relation_numbers lists)) (λ relation. Ok (just_relations (relation ∷ []))) (decoded_relation-few table at (relation_numbers lists))
    (λ relation few. omega (arith, few))

-- the numbers of an object are at most its bytes
spelled-few : (r : Result Lists MessageFault) (most : ℕ) → ((lists : Lists) → r ≡ Ok lists → numbers_held lists ≤ most) → numbers_held (spelled r) ≤ most
spelled-few (Ok lists) most few = few lists refl
spelled-few (Err d) most few = omega arith

lists_in-at_most : (object : Object) → numbers_held (lists_in object) ≤ length object.bytes
unfolding lists_in
lists_in-at_most object =
    spelled-few (listed_numbers (numbers_in (shape_of object.kind) object.at object.bytes)) (length object.bytes)
    (λ lists e. lists_in-few (shape_of object.kind) object.at object.bytes lists e)

pub parts-joined : (before more : Objects) → parts_in (joined before more) ≡ parts_in before + parts_in more
parts-joined before more =
    omega (
      arith,
      length-append before.nodes more.nodes,
      sum_by-append (λ (n : OsmNode). length n.tags) before.nodes more.nodes,
      sum_by-append (λ (w : OsmWay). length w.tags) before.ways more.ways,
      sum_by-append (λ (w : OsmWay). length w.refs) before.ways more.ways,
      sum_by-append (λ (r : OsmRelation). length r.tags) before.relations more.relations,
      sum_by-append (λ (r : OsmRelation). length r.members) before.relations more.relations,
    )

object-few : (table : List (List ℕ)) (scale : Scale) (before : Objects) (object : Object) → IfOk (with_object table scale before object) (PartsAtMost (parts_in before + length object.bytes))
object-few table scale before object =
    bind_known (PartsAtMost (numbers_held (lists_in object))) (PartsAtMost (parts_in before + length object.bytes)) (meaning_of object.kind table scale object.at (lists_in object)) (λ more. Ok (joined before more))
    (meaning_of-few object.kind table scale object.at (lists_in object))
    (λ more few. omega (arith, few, lists_in-at_most object, parts-joined before more))

-- an object more has at most so many parts as bytes
pub object-adds : (table : List (List ℕ)) (scale : Scale) (before now : Objects) (object : Object) → with_object table scale before object ≡ Ok now → parts_in now ≤ parts_in before + length object.bytes
object-adds table scale before now object e = IfOk-at_ok (PartsAtMost (parts_in before + length object.bytes)) e (object-few table scale before object)

objects-few : (table : List (List ℕ)) (scale : Scale) (before : Objects) (objects : List Object) → IfOk (with_objects table scale before objects) (PartsAtMost (parts_in before + object_bytes objects))
objects-few table scale before [] = omega arith
objects-few table scale before (object ∷ objects) =
    bind_known (PartsAtMost (parts_in before + length object.bytes)) (PartsAtMost (parts_in before + object_bytes (object ∷ objects))) (with_object table scale before object) (λ now. with_objects table scale now objects) (object-few table scale before object)
    (λ now few. if_so (PartsAtMost (parts_in now + object_bytes objects)) (PartsAtMost (parts_in before + object_bytes (object ∷ objects))) (with_objects table scale now objects) (objects-few table scale now objects)
    (λ end fewer. omega (arith, few, fewer, sum_by-cons (λ (o : Object). length o.bytes) object objects)))

block-few : (at : ℕ) (block : Block) → IfOk (objects_of at block) (PartsAtMost (object_bytes block.objects))
unfolding objects_of
block-few at block =
    bind_any (PartsAtMost (object_bytes block.objects)) (table_of at block.texts) (λ table. with_objects table (scale_of block) no_objects block.objects)
    (λ table. if_so (PartsAtMost (parts_in no_objects + object_bytes block.objects)) (PartsAtMost (object_bytes block.objects)) (with_objects table (scale_of block) no_objects block.objects) (objects-few table (scale_of block) no_objects block.objects)
    (λ end few. omega (arith, few)))

behind-few : (before : Objects) (given : Result Objects ObjectFault) (most : ℕ) → IfOk given (PartsAtMost most) → IfOk (joined_behind before given) (PartsAtMost (parts_in before + most))
behind-few before given most few =
    bind_known (PartsAtMost most) (PartsAtMost (parts_in before + most)) given (λ more. Ok (joined before more)) few (λ more m. omega (arith, m, parts-joined before more))

-- a block more has at most so many parts as its objects have bytes
pub block-adds : (at : ℕ) (block : Block) (before now : Objects) → joined_behind before (objects_of at block) ≡ Ok now → parts_in now ≤ parts_in before + object_bytes block.objects
block-adds at block before now e =
    IfOk-at_ok (PartsAtMost (parts_in before + object_bytes block.objects)) e (behind-few before (objects_of at block) (object_bytes block.objects) (block-few at block))

-- ---- room in the lists

abbrev ReadAs : Object → Lists → Type 0
ReadAs object lists = listed_numbers (numbers_in (shape_of object.kind) object.at object.bytes) ≡ Ok lists

read-few : (object : Object) (lists : Lists) → ReadAs object lists → numbers_held lists ≤ length object.bytes
read-few object lists read = lists_in-few (shape_of object.kind) object.at object.bytes lists read

pub node-fits : (table : List (List ℕ)) (scale : Scale) (old : Objects) (object : Object) (lists : Lists) (spot : Spot) (tags tags' : List Tag) → ReadAs object lists → decoded_node table scale object.at (node_numbers lists) ≡ Ok (node_with spot tags) → tags' ≡ tags → parts_in old + length object.bytes < 2 ^ 31 → NodeFits old.nodes (length tags')
node-fits table scale old object lists spot tags tags' read e same room =
    let few : 1 + length tags ≤ length lists.field_1 + length lists.field_2 = IfOk-at_ok (FewInNode (node_numbers lists)) e (decoded_node-few table scale object.at (node_numbers lists)) in
    let many : length tags' ≡ length tags = ap (λ (l : List Tag). length l) same in
    record { its_place = omega (arith, few, room, read-few object lists read); its_tags = omega (arith, many, few, room, read-few object lists read) }

pub way-fits : (table : List (List ℕ)) (old : Objects) (object : Object) (lists : Lists) (id : ℤ) (tags tags' : List Tag) (refs refs' : List ℤ) → ReadAs object lists → decoded_way table object.at (way_numbers lists) ≡ Ok (way_with id tags refs) → tags' ≡ tags → refs' ≡ refs → parts_in old + length object.bytes < 2 ^ 31 → WayFits old.ways (length tags') (length refs')
way-fits table old object lists id tags tags' refs refs' read e same alike room =
    let few : length tags + length refs ≤ length lists.field_2 + length lists.field_8 = IfOk-at_ok (FewInWay (way_numbers lists)) e (decoded_way-few table object.at (way_numbers lists)) in
    let many : length tags' ≡ length tags = ap (λ (l : List Tag). length l) same in
    let more : length refs' ≡ length refs = ap (λ (l : List ℤ). length l) alike in
    record { its_tags = omega (arith, many, few, room, read-few object lists read); its_refs = omega (arith, more, few, room, read-few object lists read) }

pub relation-fits : (table : List (List ℕ)) (old : Objects) (object : Object) (lists : Lists) (id : ℤ) (tags tags' : List Tag) (members members' : List Member) → ReadAs object lists → decoded_relation table object.at (relation_numbers lists) ≡ Ok (relation_with id tags members) → tags' ≡ tags → members' ≡ members → parts_in old + length object.bytes < 2 ^ 31 → RelationFits old.relations (length tags') (length members')
relation-fits table old object lists id tags tags' members members' read e same alike room =
    let few : length tags + length members ≤ length lists.field_2 + length lists.field_8 = IfOk-at_ok (FewInRelation (relation_numbers lists)) e (decoded_relation-few table object.at (relation_numbers lists)) in
    let many : length tags' ≡ length tags = ap (λ (l : List Tag). length l) same in
    let more : length members' ≡ length members = ap (λ (l : List Member). length l) alike in
    record { its_tags = omega (arith, many, few, room, read-few object lists read); its_members = omega (arith, more, few, room, read-few object lists read) }

-- there is room for the nodes and the tags of a DenseNodes
pub dense-fits : (old : Objects) (object : Object) (lists : Lists) (raw : DenseNumbers) → ReadAs object lists → raw ≡ dense_numbers lists → parts_in old + length object.bytes < 2 ^ 31
    → (length old.nodes + length raw.id < 2 ^ 31) × (tags_of_nodes old.nodes + length raw.keys_vals < 2 ^ 31)
dense-fits old object lists raw read same room =
    let ids : length raw.id ≡ length lists.field_1 = ap (λ (r : DenseNumbers). length r.id) same in
    let pairs : length raw.keys_vals ≡ length lists.field_10 = ap (λ (r : DenseNumbers). length r.keys_vals) same in
    (omega (arith, ids, room, read-few object lists read), omega (arith, pairs, room, read-few object lists read))

-- ---- the nodes of a DenseNodes, one after the other

groups-apart : (numbers : List ℕ) → length (first_group numbers) + length (behind_group numbers) ≤ length numbers
groups-apart [] = omega arith
groups-apart (zero ∷ numbers) = omega arith
groups-apart (suc key ∷ []) = omega arith
groups-apart (suc key ∷ value ∷ numbers) = omega (arith, groups-apart numbers)

-- the tags of a group and what is behind it are no more than the numbers
pub group-few : (table : List (List ℕ)) (at : ℕ) (numbers : List ℕ) (tags : List Tag) (rest : List ℕ) → group_read table at numbers ≡ Ok (tags, rest) → length tags + length rest ≤ length numbers
group-few table at numbers tags rest e =
    let gives = group_read-gives table at numbers tags rest e in
    let few : length tags ≤ length (first_group numbers) = IfOk-at_ok (AtMost (length (first_group numbers))) gives.0 (tags_of-few table at (first_group numbers)) in
    omega (arith, few, groups-apart numbers, ap (λ (l : List ℕ). length l) gives.1)

-- the nodes so far, the tags of which came out of the numbers that aren't left
pub record NodesSoFar (old now : List OsmNode) (i : ℕ) (numbers rest : List ℕ) : Type 0 where
  pub places : length now ≤ length old + i
  pub their_tags : tags_of_nodes now + length rest ≤ tags_of_nodes old + length numbers

pub one-fits : (old now : List OsmNode) (i count : ℕ) (numbers rest joined_behind : List ℕ) (tags tags' : List Tag) → NodesSoFar old now i numbers rest → i < count → length old + count < 2 ^ 31 → tags_of_nodes old + length numbers < 2 ^ 31 → length tags + length joined_behind ≤ length rest → tags' ≡ tags → NodeFits now (length tags')
one-fits old now i count numbers rest joined_behind tags tags' so_far h places room few same =
    let many : length tags' ≡ length tags = ap (λ (l : List Tag). length l) same in
    record { its_place = omega (arith, so_far.places, h, places); its_tags = omega (arith, many, so_far.their_tags, few, room) }

pub NodesSoFar-placed : (old now then : List OsmNode) (i : ℕ) (numbers rest joined_behind : List ℕ) (node : OsmNode) (tags : List Tag) → NodesSoFar old now i numbers rest → length tags + length joined_behind ≤ length rest → node.tags ≡ tags → then ≡ now ++ node ∷ [] → NodesSoFar old then (i + 1) numbers joined_behind
NodesSoFar-placed old now then i numbers rest joined_behind node tags so_far few same pushed =
    let many : length node.tags ≡ length tags = ap (λ (l : List Tag). length l) same in
    let one : length then ≡ length (now ++ node ∷ []) = ap (λ (l : List OsmNode). length l) pushed in
    let their : tags_of_nodes then ≡ tags_of_nodes (now ++ node ∷ []) = ap tags_of_nodes pushed in
    record {
      places = omega (arith, so_far.places, one, length-append now (node ∷ []));
      their_tags = omega (arith, so_far.their_tags, few, many, their, sum_by_push (λ (n : OsmNode). length n.tags) now node);
    }

pub NodesSoFar-misplaced : (old now then : List OsmNode) (i : ℕ) (numbers rest joined_behind : List ℕ) (tags : List Tag) → NodesSoFar old now i numbers rest → length tags + length joined_behind ≤ length rest → then ≡ now → NodesSoFar old then (i + 1) numbers joined_behind
NodesSoFar-misplaced old now then i numbers rest joined_behind tags so_far few same =
    let one : length then ≡ length now = ap (λ (l : List OsmNode). length l) same in
    let their : tags_of_nodes then ≡ tags_of_nodes now = ap tags_of_nodes same in
    record { places = omega (arith, so_far.places, one); their_tags = omega (arith, so_far.their_tags, few, their) }

-- ---- the objects of a block, one after the other

-- the bytes of the objects that are left: those of the next one, and of those behind it
pub bytes_left : (raws : List RawObject) (i : ℕ) (raw : RawObject) → i < length raws → raw ≡ get_or raws i raw → object_bytes (drop i (map seen_object raws)) ≡ length (seen_object raw).bytes + object_bytes (drop (i + 1) (map seen_object raws))
bytes_left raws i raw h e =
    ap object_bytes (drop-map seen_object i raws ∙ ap (map seen_object) (drop_more raws i raw h ∙ ap (λ (o : RawObject). o ∷ drop (i + 1) raws) (sym e)))
    ∙ sum_by-cons (λ (o : Object). length o.bytes) (seen_object raw) (map seen_object (drop (i + 1) raws))
    ∙ ap (λ (l : List Object). length (seen_object raw).bytes + object_bytes l) (sym (drop-map seen_object (i + 1) raws))
