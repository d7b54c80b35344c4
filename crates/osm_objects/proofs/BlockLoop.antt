-- A loop over the objects of a block: those so far, and what is left.
use Rattle.std.proofs.Common.{◌≡◌, ℕ, ◌+◌, ◌<◌, ◌≤◌, ℤ, List, [], ◌∷◌, ◌++◌, length, map, get_or, drop, Option, Some, None, Result, Ok, Err, Vec, Bor, Global, zero, suc, subst, arith, refl, sym, ap, ◌∙◌, append_assoc, append-nil}
use Rattle.std.proofs.lemmas.List.{drop_all, drop_more, drop-map}
use Rattle.std.specs.List.{All}
use Rattle.std.specs.Option.{option_map}
use Rattle.std.specs.Prelude.{is_err, false}
use Rattle.osm_messages.specs.declared.kind.ObjectKind.{ObjectKind}
use Rattle.osm_messages.specs.declared.kind.ObjectKind.TheVariants as kinds
use Rattle.osm_messages.specs.Answers.{Becomes}
use Rattle.osm_messages.specs.declared.fault.MessageFault.{MessageFault}
use Rattle.osm_messages.specs.declared.object.RawObject.{RawObject}
use Rattle.osm_messages.specs.Seen.{seen_object}
use Rattle.osm_messages.specs.Groups.{Object, HasNumbers}
use Rattle.osm_messages.specs.Blocks.{Block}
use Rattle.osm_messages.specs.Numbers.{shape_of, numbers_in}
use Rattle.osm_messages.specs.Lists.{Lists, listed_numbers}
use Rattle.osm_messages.specs.RawNumbers.{node_numbers, dense_numbers, way_numbers, relation_numbers}
use Rattle.osm_model.specs.declared.tags.Tag.{Tag}
use Rattle.osm_model.specs.declared.nodes.OsmNode.{OsmNode}
use Rattle.osm_model.specs.declared.ways.OsmWay.{OsmWay}
use Rattle.osm_model.specs.declared.relations.Member.{Member}
use Rattle.osm_model.specs.declared.relations.OsmRelation.{OsmRelation}
use Rattle.osm_objects.specs.declared.nodes.Spot.{Spot}
use Rattle.osm_objects.specs.declared.fault.ObjectFault.{ObjectFault}
use Rattle.osm_objects.specs.declared.fault.ObjectFault.TheVariants.{MissingField}
use Rattle.osm_objects.specs.declared.scale.Scale.{Scale}
use Rattle.osm_objects.specs.Steps.{◌>>=◌}
use Rattle.osm_objects.specs.Nodes.{decoded_node, decoded_dense_nodes}
use Rattle.osm_objects.specs.Ways.{decoded_way}
use Rattle.osm_objects.specs.Relations.{decoded_relation}
use Rattle.osm_objects.specs.Answers.{after}
use Rattle.osm_objects.specs.Seen.{node_with, way_with, relation_with}
use Rattle.osm_objects.specs.Objects.{Objects, no_objects, just_nodes, just_ways, just_relations, joined, joined_behind, spelled, lists_in, meaning_of, with_object, with_objects, scale_of, table_of, objects_of}

-- ---- objects behind objects

abbrev pub record_of : List OsmNode → List OsmWay → List OsmRelation → Objects
record_of nodes ways relations = record { nodes = nodes; ways = ways; relations = relations }

built : (n m : List OsmNode) (w v : List OsmWay) (r s : List OsmRelation) → n ≡ m → w ≡ v → r ≡ s → record_of n w r ≡ record_of m v s
built n m w v r s e f g = rw (e, f, g) refl

same_objects : (a b : Objects) → a.nodes ≡ b.nodes → a.ways ≡ b.ways → a.relations ≡ b.relations → a ≡ b
same_objects a b e f g = built a.nodes b.nodes a.ways b.ways a.relations b.relations e f g

joined_none : (a : Objects) → joined a no_objects ≡ a
joined_none a = same_objects (joined a no_objects) a (append-nil a.nodes) (append-nil a.ways) (append-nil a.relations)

joined_assoc : (a b c : Objects) → joined (joined a b) c ≡ joined a (joined b c)
joined_assoc a b c =
    same_objects (joined (joined a b) c) (joined a (joined b c)) (append_assoc a.nodes b.nodes c.nodes) (append_assoc a.ways b.ways c.ways) (append_assoc a.relations b.relations c.relations)

-- a step behind more
step_behind : (old before : Objects) (one : Result Objects ObjectFault) (k : Objects → Result Objects ObjectFault) → ((now : Objects) → joined_behind old (k now) ≡ k (joined old now))
    → joined_behind old (joined_behind before one >>= k) ≡ (joined_behind (joined old before) one >>= k)
step_behind old before (Ok more) k same = same (joined before more) ∙ ap k (sym (joined_assoc old before more))
step_behind old before (Err d) k same = refl

objects_behind : (table : List (List ℕ)) (scale : Scale) (old before : Objects) (objects : List Object) → joined_behind old (with_objects table scale before objects) ≡ with_objects table scale (joined old before) objects
objects_behind table scale old before [] = refl
objects_behind table scale old before (object ∷ objects) =
    step_behind old before (meaning_of object.kind table scale object.at (lists_in object)) (λ now. with_objects table scale now objects) (λ now. objects_behind table scale old now objects)

-- ---- the loop

pub block-begun : (at : ℕ) (block : Block) (table : List (List ℕ)) (old : Objects) → table_of at block.texts ≡ Ok table → joined_behind old (objects_of at block) ≡ with_objects table (scale_of block) old block.objects
unfolding objects_of
block-begun at block table old e =
    ap (λ t. joined_behind old (t >>= λ table. with_objects table (scale_of block) no_objects block.objects)) e
    ∙ objects_behind table (scale_of block) old no_objects block.objects
    ∙ ap (λ now. with_objects table (scale_of block) now block.objects) (joined_none old)

pub block-no_table : (at : ℕ) (block : Block) (old : Objects) (d : ObjectFault) → table_of at block.texts ≡ Err d → joined_behind old (objects_of at block) ≡ Err d
unfolding objects_of
block-no_table at block old d e = ap (λ t. joined_behind old (t >>= λ table. with_objects table (scale_of block) no_objects block.objects)) e

pub block-more : (table : List (List ℕ)) (scale : Scale) (now : Objects) (raws : List RawObject) (i : ℕ) (raw : RawObject) → i < length raws → raw ≡ get_or raws i raw
    → with_objects table scale now (drop i (map seen_object raws)) ≡ (with_object table scale now (seen_object raw) >>= λ then. with_objects table scale then (drop (i + 1) (map seen_object raws)))
block-more table scale now raws i raw h e =
    ap (λ l. with_objects table scale now l) (drop-map seen_object i raws ∙ ap (map seen_object) (drop_more raws i raw h ∙ ap (λ o. o ∷ drop (i + 1) raws) (sym e)))
    ∙ ap (λ l. with_object table scale now (seen_object raw) >>= λ then. with_objects table scale then l) (sym (drop-map seen_object (i + 1) raws))

pub block-end : (table : List (List ℕ)) (scale : Scale) (now : Objects) (raws : List RawObject) (i : ℕ) → length raws ≤ i → with_objects table scale now (drop i (map seen_object raws)) ≡ Ok now
block-end table scale now raws i h = ap (λ l. with_objects table scale now l) (drop-map seen_object i raws ∙ ap (map seen_object) (drop_all i raws h))

at_map : (raws : List RawObject) (i : ℕ) (d : RawObject) → get_or (map seen_object raws) i (seen_object d) ≡ seen_object (get_or raws i d)
at_map [] i d = refl
at_map (x ∷ xs) zero d = refl
at_map (x ∷ xs) (suc i) d = at_map xs i d

length_map : (raws : List RawObject) → length (map seen_object raws) ≡ length raws
length_map [] = refl
length_map (x ∷ xs) = ap suc (length_map xs)

pub spelled_at : (raws : List RawObject) (i : ℕ) (raw : RawObject) → All HasNumbers (map seen_object raws) → i < length raws → raw ≡ get_or raws i raw → HasNumbers (seen_object raw)
spelled_at raws i raw all h e =
    let many : length (map seen_object raws) ≡ length raws = length_map raws in
    let numbers : HasNumbers (get_or (map seen_object raws) i (seen_object raw)) = all i (seen_object raw) (omega arith) in
    subst (λ (o : Object). HasNumbers o) (at_map raws i raw ∙ ap (λ (r : RawObject). seen_object r) (sym e)) numbers

-- the texts of a block's table
abbrev pub texts_seen : Option (Vec (Bor (List ℕ)) Global) → Option (List (List ℕ))
texts_seen texts = option_map (λ texts. map (λ text. text.now) texts.items) texts

pub no_texts : (at : ℕ) (texts : Option (Vec (Bor (List ℕ)) Global)) → texts ≡ None → table_of at (texts_seen texts) ≡ Err (MissingField at 1)
no_texts at texts e = ap (λ t. table_of at (texts_seen t)) e

pub some_texts : (at : ℕ) (texts : Option (Vec (Bor (List ℕ)) Global)) (table : Vec (Bor (List ℕ)) Global) (seen : List (Bor (List ℕ))) (made : List (List ℕ)) → texts ≡ Some table → seen ≡ table.items → made ≡ map (λ text. text.now) seen
    → table_of at (texts_seen texts) ≡ Ok made
some_texts at texts table seen made e f g =
    ap (λ t. table_of at (texts_seen t)) e ∙ ap (λ (l : List (Bor (List ℕ))). Ok (map (λ text. text.now) l)) (sym f) ∙ ap (λ l. Ok l) (sym g)

-- ---- one object

pub lists_in-is : (object : Object) (lists : Lists) → listed_numbers (numbers_in (shape_of object.kind) object.at object.bytes) ≡ Ok lists → lists_in object ≡ lists
unfolding lists_in
lists_in-is object lists e = ap spelled e

pub became : {A B : Type 0} (r : Result A MessageFault) (new : B) (given : Result B MessageFault) → Becomes r new given → is_err r ≡ false → given ≡ Ok new
became (Ok x) new given e good = e
became (Err d) new given e good = absurd cc

-- its kind and its numbers are these
with_object-is : (table : List (List ℕ)) (scale : Scale) (old : Objects) (object : Object) (kind : ObjectKind) (lists : Lists) → object.kind ≡ kind → lists_in object ≡ lists
    → with_object table scale old object ≡ joined_behind old (meaning_of kind table scale object.at lists)
with_object-is table scale old object kind lists e f =
    ap (λ k. joined_behind old (meaning_of k table scale object.at (lists_in object))) e ∙ ap (λ l. joined_behind old (meaning_of kind table scale object.at l)) f

same_last : {A : Type 0} (xs : List A) (x y : A) → x ≡ y → xs ++ x ∷ [] ≡ xs ++ y ∷ []
same_last xs x y e = ap (λ z. xs ++ z ∷ []) e

abbrev pub Read : Object → Lists → Type 0
Read object lists = listed_numbers (numbers_in (shape_of object.kind) object.at object.bytes) ≡ Ok lists

pub node-fault : (table : List (List ℕ)) (scale : Scale) (old : Objects) (object : Object) (lists : Lists) (d : ObjectFault) → object.kind ≡ kinds.Node → Read object lists → decoded_node table scale object.at (node_numbers lists) ≡ Err d → with_object table scale old object ≡ Err d
node-fault table scale old object lists d e read f =
    with_object-is table scale old object kinds.Node lists e (lists_in-is object lists read) ∙ ap (λ r. joined_behind old (r >>= λ node. Ok (just_nodes (node ∷ [])))) f

pub node-added : (table : List (List ℕ)) (scale : Scale) (old : Objects) (object : Object) (lists : Lists) (node : OsmNode) (items : List OsmNode) → object.kind ≡ kinds.Node → Read object lists → decoded_node table scale object.at (node_numbers lists) ≡ Ok node
    → items ≡ old.nodes ++ node ∷ [] → with_object table scale old object ≡ Ok (record_of items old.ways old.relations)
node-added table scale old object lists node items e read f pushed =
    with_object-is table scale old object kinds.Node lists e (lists_in-is object lists read) ∙ ap (λ r. joined_behind old (r >>= λ node. Ok (just_nodes (node ∷ [])))) f
    ∙ ap (λ o. Ok o) (same_objects (joined old (just_nodes (node ∷ []))) (record_of items old.ways old.relations) (sym pushed) (append-nil old.ways) (append-nil old.relations))

-- the node of these parts was put behind the others
pub node-pushed : (table : List (List ℕ)) (scale : Scale) (old : Objects) (object : Object) (lists : Lists) (spot : Spot) (u v w : ℤ) (tags tags' : List Tag) (items : List OsmNode) → object.kind ≡ kinds.Node → Read object lists → decoded_node table scale object.at (node_numbers lists) ≡ Ok (node_with spot tags)
    → u ≡ spot.id → v ≡ spot.lat → w ≡ spot.lon → tags' ≡ tags → items ≡ old.nodes ++ record { id = u; lat = v; lon = w; tags = tags' } ∷ [] → with_object table scale old object ≡ Ok (record_of items old.ways old.relations)
node-pushed table scale old object lists spot u v w tags tags' items e read f a b c d pushed =
    node-added table scale old object lists (node_with spot tags) items e read f (pushed ∙ same_last old.nodes _ _ (parts u v w tags' spot.id spot.lat spot.lon tags a b c d))
  where
    made : ℤ → ℤ → ℤ → List Tag → OsmNode
    made id lat lon tags = record { id = id; lat = lat; lon = lon; tags = tags }

    parts : (u v w : ℤ) (s : List Tag) (x y z : ℤ) (t : List Tag) → u ≡ x → v ≡ y → w ≡ z → s ≡ t → made u v w s ≡ made x y z t
    parts u v w s x y z t a b c d = rw (a, b, c, d) refl

pub way-fault : (table : List (List ℕ)) (scale : Scale) (old : Objects) (object : Object) (lists : Lists) (d : ObjectFault) → object.kind ≡ kinds.Way → Read object lists → decoded_way table object.at (way_numbers lists) ≡ Err d → with_object table scale old object ≡ Err d
way-fault table scale old object lists d e read f =
    with_object-is table scale old object kinds.Way lists e (lists_in-is object lists read) ∙ ap (λ r. joined_behind old (r >>= λ way. Ok (just_ways (way ∷ [])))) f

pub way-added : (table : List (List ℕ)) (scale : Scale) (old : Objects) (object : Object) (lists : Lists) (way : OsmWay) (items : List OsmWay) → object.kind ≡ kinds.Way → Read object lists → decoded_way table object.at (way_numbers lists) ≡ Ok way
    → items ≡ old.ways ++ way ∷ [] → with_object table scale old object ≡ Ok (record_of old.nodes items old.relations)
way-added table scale old object lists way items e read f pushed =
    with_object-is table scale old object kinds.Way lists e (lists_in-is object lists read) ∙ ap (λ r. joined_behind old (r >>= λ way. Ok (just_ways (way ∷ [])))) f
    ∙ ap (λ o. Ok o) (same_objects (joined old (just_ways (way ∷ []))) (record_of old.nodes items old.relations) (append-nil old.nodes) (sym pushed) (append-nil old.relations))

-- the way of these parts was put behind the others
pub way-pushed : (table : List (List ℕ)) (scale : Scale) (old : Objects) (object : Object) (lists : Lists) (id u : ℤ) (tags tags' : List Tag) (refs refs' : List ℤ) (items : List OsmWay) → object.kind ≡ kinds.Way → Read object lists → decoded_way table object.at (way_numbers lists) ≡ Ok (way_with id tags refs)
    → u ≡ id → tags' ≡ tags → refs' ≡ refs → items ≡ old.ways ++ way_with u tags' refs' ∷ [] → with_object table scale old object ≡ Ok (record_of old.nodes items old.relations)
way-pushed table scale old object lists id u tags tags' refs refs' items e read f a b c pushed =
    way-added table scale old object lists (way_with id tags refs) items e read f (pushed ∙ same_last old.ways _ _ (parts u id tags' tags refs' refs a b c))
  where
    parts : (u x : ℤ) (s t : List Tag) (r q : List ℤ) → u ≡ x → s ≡ t → r ≡ q → way_with u s r ≡ way_with x t q
    parts u x s t r q a b c = rw (a, b, c) refl

pub relation-fault : (table : List (List ℕ)) (scale : Scale) (old : Objects) (object : Object) (lists : Lists) (d : ObjectFault) → object.kind ≡ kinds.Relation → Read object lists → decoded_relation table object.at (relation_numbers lists) ≡ Err d → with_object table scale old object ≡ Err d
relation-fault table scale old object lists d e read f =
    with_object-is table scale old object kinds.Relation lists e (lists_in-is object lists read) ∙ ap (λ r. joined_behind old (r >>= λ relation. Ok (just_relations (relation ∷ [])))) f

pub relation-added : (table : List (List ℕ)) (scale : Scale) (old : Objects) (object : Object) (lists : Lists) (relation : OsmRelation) (items : List OsmRelation) → object.kind ≡ kinds.Relation → Read object lists → decoded_relation table object.at (relation_numbers lists) ≡ Ok relation
    → items ≡ old.relations ++ relation ∷ [] → with_object table scale old object ≡ Ok (record_of old.nodes old.ways items)
relation-added table scale old object lists relation items e read f pushed =
    with_object-is table scale old object kinds.Relation lists e (lists_in-is object lists read) ∙ ap (λ r. joined_behind old (r >>= λ relation. Ok (just_relations (relation ∷ [])))) f
    ∙ ap (λ o. Ok o) (same_objects (joined old (just_relations (relation ∷ []))) (record_of old.nodes old.ways items) (append-nil old.nodes) (append-nil old.ways) (sym pushed))

-- the relation of these parts was put behind the others
pub relation-pushed : (table : List (List ℕ)) (scale : Scale) (old : Objects) (object : Object) (lists : Lists) (id u : ℤ) (tags tags' : List Tag) (members members' : List Member) (items : List OsmRelation) → object.kind ≡ kinds.Relation → Read object lists → decoded_relation table object.at (relation_numbers lists) ≡ Ok (relation_with id tags members)
    → u ≡ id → tags' ≡ tags → members' ≡ members → items ≡ old.relations ++ relation_with u tags' members' ∷ [] → with_object table scale old object ≡ Ok (record_of old.nodes old.ways items)
relation-pushed table scale old object lists id u tags tags' members members' items e read f a b c pushed =
    relation-added table scale old object lists (relation_with id tags members) items e read f (pushed ∙ same_last old.relations _ _ (parts u id tags' tags members' members a b c))
  where
    parts : (u x : ℤ) (s t : List Tag) (r q : List Member) → u ≡ x → s ≡ t → r ≡ q → relation_with u s r ≡ relation_with x t q
    parts u x s t r q a b c = rw (a, b, c) refl

-- the nodes of a DenseNodes, behind those so far
many_nodes : (old : Objects) (m : Result (List OsmNode) ObjectFault) → joined_behind old (m >>= λ nodes. Ok (just_nodes nodes)) ≡ (after old.nodes m >>= λ items. Ok (record_of items old.ways old.relations))
many_nodes old (Ok nodes) = ap (λ o. Ok o) (same_objects (joined old (just_nodes nodes)) (record_of (old.nodes ++ nodes) old.ways old.relations) refl (append-nil old.ways) (append-nil old.relations))
many_nodes old (Err d) = refl

pub dense-fault : (table : List (List ℕ)) (scale : Scale) (old : Objects) (object : Object) (lists : Lists) (d : ObjectFault) → object.kind ≡ kinds.DenseNodes → Read object lists → after old.nodes (decoded_dense_nodes table scale object.at (dense_numbers lists)) ≡ Err d → with_object table scale old object ≡ Err d
dense-fault table scale old object lists d e read f =
    with_object-is table scale old object kinds.DenseNodes lists e (lists_in-is object lists read) ∙ many_nodes old (decoded_dense_nodes table scale object.at (dense_numbers lists))
    ∙ ap (λ r. r >>= λ items. Ok (record_of items old.ways old.relations)) f

pub dense-added : (table : List (List ℕ)) (scale : Scale) (old : Objects) (object : Object) (lists : Lists) (items : List OsmNode) → object.kind ≡ kinds.DenseNodes → Read object lists → after old.nodes (decoded_dense_nodes table scale object.at (dense_numbers lists)) ≡ Ok items
    → with_object table scale old object ≡ Ok (record_of items old.ways old.relations)
dense-added table scale old object lists items e read f =
    with_object-is table scale old object kinds.DenseNodes lists e (lists_in-is object lists read) ∙ many_nodes old (decoded_dense_nodes table scale object.at (dense_numbers lists))
    ∙ ap (λ r. r >>= λ items. Ok (record_of items old.ways old.relations)) f
