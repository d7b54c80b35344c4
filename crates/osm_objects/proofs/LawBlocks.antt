-- The objects of a block, one after the other.
use Rattle.std.proofs.Common.{◌≡◌, ◌↔◌, inl, inr, ℕ, Bool, true, false, List, [], ◌∷◌, ◌++◌, Option, Some, None, Result, Ok, Err, refl, sym, ap, ◌∙◌, subst, append_assoc}
use Rattle.std.specs.Prelude.{◌==◌}
use Rattle.std.specs.List.{AllByRecursion, cons_option}
use Rattle.std.proofs.lemmas.List.{append-nil}
use Rattle.std.proofs.lemmas.List.Elements.{recursion_from_All}
use Rattle.wire_read.specs.Varint.{AreBytes}
use Rattle.wire_read.specs.Fields.{Content, Varint, Fixed64, Bytes, Fixed32, WireField}
use Rattle.osm_messages.specs.declared.fault.MessageFault.{MessageFault}
use Rattle.osm_messages.specs.declared.kind.ObjectKind.{ObjectKind}
use Rattle.osm_messages.specs.declared.kind.ObjectKind.TheVariants as kinds
use Rattle.osm_messages.specs.Numbers.{shape_of, numbers_in}
use Rattle.osm_messages.specs.Groups.{Object}
use Rattle.osm_messages.specs.Blocks.{Block}
use Rattle.osm_messages.specs.Lists.{Lists, number_lists, listed_numbers}
use Rattle.osm_messages.specs.Means.{Part, held_part, parts, Together, IsObject, SpellsObject, kind_of_field, object_by, held_object, objects_of_fields, GivesGroup, IsPrimitiveBlock}
use Rattle.osm_messages.proofs.Meant.{Each, InBytes, HoldsBytes, holds_bytes}
use Rattle.osm_objects.specs.declared.fault.ObjectFault.{ObjectFault}
use Rattle.osm_objects.specs.declared.fault.ObjectFault.TheVariants as faults
use Rattle.osm_objects.specs.declared.scale.Scale.{Scale}
use Rattle.osm_objects.specs.Steps.{◌>>=◌}
use Rattle.osm_objects.specs.Objects.{Objects, no_objects, joined, spelled, lists_in, meaning_of, with_object, with_objects, table_of, objects_of}
use Rattle.osm_objects.specs.Means.{held_by, GivesObjects, AreJoined, units_in, IsObjects}
use Rattle.osm_objects.specs.Causes.{IsFirstCause, HasFirstFault, HasNoFault, IsFirstAmong, IsFirstOfBlock}
use Rattle.osm_objects.proofs.LawParts.{ok_one, err_one, ok_not_err, both_parts, which_part, either_way, then_is, numbered_is}
use Rattle.osm_objects.proofs.LawKinds.{lists_by, kind_means, kind_meant, first_fault, no_fault, fault_so}

-- ---- an object with its numbers

-- the law of the messages, for an object's numbers
abbrev pub NumbersAre : Type 0
NumbersAre = (kind : ObjectKind) (at : ℕ) (bytes : List ℕ) → AreBytes bytes → (numbers : List (ℕ × ℕ)) → (numbers_in (shape_of kind) at bytes ≡ Ok numbers) ↔ IsObject kind at bytes numbers

-- its numbers, and that there are no others
pub record Legible (object : Object) : Type 0 where
  pub numbers : List (ℕ × ℕ)
  pub spells : IsObject object.kind object.at object.bytes numbers
  pub one : (others : List (ℕ × ℕ)) → IsObject object.kind object.at object.bytes others → others ≡ numbers
  pub lists : lists_in object ≡ lists_by (held_by numbers)

same_lists : {a b c d e f a' b' c' d' e' f' : List ℕ} → a ≡ a' → b ≡ b' → c ≡ c' → d ≡ d' → e ≡ e' → f ≡ f'
    → ◌≡◌ {A = Lists} (record { field_1 = a; field_2 = b; field_3 = c; field_8 = d; field_9 = e; field_10 = f }) (record { field_1 = a'; field_2 = b'; field_3 = c'; field_8 = d'; field_9 = e'; field_10 = f' })
same_lists p q r s t u = cc

lists_are : (numbers : List (ℕ × ℕ)) → number_lists numbers ≡ lists_by (held_by numbers)
lists_are numbers = same_lists (numbered_is 1 numbers) (numbered_is 2 numbers) (numbered_is 3 numbers) (numbered_is 8 numbers) (numbered_is 9 numbers) (numbered_is 10 numbers)

legible : NumbersAre → (object : Object) → AreBytes object.bytes → SpellsObject object → Legible object
unfolding lists_in
legible law object are (numbers, spells) =
    let so = (law object.kind object.at object.bytes are numbers).1 spells in
    record {
      numbers = numbers;
      spells = spells;
      one = λ others also. inside others numbers (sym ((law object.kind object.at object.bytes are others).1 also) ∙ so);
      lists = ap (λ r. spelled (listed_numbers r)) so ∙ lists_are numbers;
    }
  where
    inside : (a b : List (ℕ × ℕ)) → ◌≡◌ {A = Result (List (ℕ × ℕ)) MessageFault} (Ok a) (Ok b) → a ≡ b
    inside a b e = cc

-- ---- the objects, one after the other

same_objects : (a b : Objects) → a.nodes ≡ b.nodes → a.ways ≡ b.ways → a.relations ≡ b.relations → a ≡ b
same_objects a b p q r =
    ap (λ ns. record { nodes = ns; ways = a.ways; relations = a.relations }) p
    ∙ ap (λ ws. record { nodes = b.nodes; ways = ws; relations = a.relations }) q
    ∙ ap (λ rs. record { nodes = b.nodes; ways = b.ways; relations = rs }) r

joined_none : (a : Objects) → joined a no_objects ≡ a
joined_none a = same_objects (joined a no_objects) a (append-nil a.nodes) (append-nil a.ways) (append-nil a.relations)

none_joined : (a : Objects) → joined no_objects a ≡ a
none_joined a = same_objects (joined no_objects a) a refl refl refl

joined_twice : (a b c : Objects) → joined (joined a b) c ≡ joined a (joined b c)
joined_twice a b c = same_objects (joined (joined a b) c) (joined a (joined b c)) (append_assoc a.nodes b.nodes c.nodes) (append_assoc a.ways b.ways c.ways) (append_assoc a.relations b.relations c.relations)

abbrev AllLegible : List Object → Type 0
AllLegible objects = AllByRecursion Legible objects

object_gives : (table : List (List ℕ)) (scale : Scale) (object : Object) → Legible object → (given : Objects) → meaning_of object.kind table scale object.at (lists_in object) ≡ Ok given → GivesObjects table scale object given
object_gives table scale object so given e = record {
  numbers = so.numbers;
  spells = so.spells;
  means = kind_means object.kind table scale object.at (held_by so.numbers) given (ap (meaning_of object.kind table scale object.at) (sym so.lists) ∙ e);
}

given_object : (table : List (List ℕ)) (scale : Scale) (object : Object) → Legible object → (given : Objects) → GivesObjects table scale object given → meaning_of object.kind table scale object.at (lists_in object) ≡ Ok given
given_object table scale object so given gives =
    let same = so.one gives.numbers gives.spells in
    ap (meaning_of object.kind table scale object.at) (so.lists ∙ ap (λ ns. lists_by (held_by ns)) (sym same)) ∙ kind_meant object.kind table scale object.at (held_by gives.numbers) given gives.means

object_fault : (table : List (List ℕ)) (scale : Scale) (object : Object) → Legible object → (f : ObjectFault) → meaning_of object.kind table scale object.at (lists_in object) ≡ Err f → HasFirstFault table scale object f
object_fault table scale object so f e = record {
  numbers = so.numbers;
  spells = so.spells;
  first = first_fault object.kind table scale object.at (held_by so.numbers) f (ap (meaning_of object.kind table scale object.at) (sym so.lists) ∙ e);
}

fault_object : (table : List (List ℕ)) (scale : Scale) (object : Object) → Legible object → (f : ObjectFault) → HasFirstFault table scale object f → meaning_of object.kind table scale object.at (lists_in object) ≡ Err f
fault_object table scale object so f has =
    let same = so.one has.numbers has.spells in
    ap (meaning_of object.kind table scale object.at) (so.lists ∙ ap (λ ns. lists_by (held_by ns)) (sym same)) ∙ fault_so object.kind table scale object.at (held_by has.numbers) f has.first

object_good : (table : List (List ℕ)) (scale : Scale) (object : Object) → Legible object → (given : Objects) → meaning_of object.kind table scale object.at (lists_in object) ≡ Ok given → HasNoFault table scale object
object_good table scale object so given e = record {
  numbers = so.numbers;
  spells = so.spells;
  none = no_fault object.kind table scale object.at (held_by so.numbers) given (ap (meaning_of object.kind table scale object.at) (sym so.lists) ∙ e);
}

-- an object without a fault gives objects
good_object : (table : List (List ℕ)) (scale : Scale) (object : Object) → Legible object → HasNoFault table scale object → (given : Objects) × (meaning_of object.kind table scale object.at (lists_in object) ≡ Ok given)
good_object table scale object so good =
    elim (either_way (meaning_of object.kind table scale object.at (lists_in object))) [
      | inl h ↦ h
      | inr h ↦
          (let has = object_fault table scale object so h.0 h.1 in
          let same = so.one good.numbers good.spells ∙ sym (so.one has.numbers has.spells) in
          absurd (subst (λ (ns : List (ℕ × ℕ)). IsFirstCause table scale object.kind (held_by ns) object.at h.0 → ⊥) same (λ first. good.none first.cause first.stands) has.first))
    ]

abbrev one_more : List (List ℕ) → Scale → Objects → Object → Result Objects ObjectFault
one_more table scale before object = with_object table scale before object

pub all_means : (table : List (List ℕ)) (scale : Scale) (objects : List Object) → AllLegible objects → (before whole : Objects) → with_objects table scale before objects ≡ Ok whole → (more : Objects) × AreJoined table scale objects more × (whole ≡ joined before more)
all_means table scale [] so before whole e = (no_objects, refl, sym (ok_one before whole e) ∙ sym (joined_none before))
all_means table scale (object ∷ objects) so before whole e =
    let a = both_parts (with_object table scale before object) (λ now. with_objects table scale now objects) whole e in
    let g = both_parts (meaning_of object.kind table scale object.at (lists_in object)) (λ more. Ok (joined before more)) a.0 a.1 in
    let rest = all_means table scale objects so.1 a.0 whole a.2 in
    let now : joined before g.0 ≡ a.0 = ok_one (joined before g.0) a.0 g.2 in
    (joined g.0 rest.0, (g.0, rest.0, object_gives table scale object so.0 g.0 g.1, refl, rest.1), rest.2 ∙ ap (λ o. joined o rest.0) (sym now) ∙ joined_twice before g.0 rest.0)

pub all_meant : (table : List (List ℕ)) (scale : Scale) (objects : List Object) → AllLegible objects → (before more : Objects) → AreJoined table scale objects more → with_objects table scale before objects ≡ Ok (joined before more)
all_meant table scale [] so before more none = ap (λ o. Ok o) (sym (joined_none before) ∙ ap (joined before) (sym none))
all_meant table scale (object ∷ objects) so before more (given, others, gives, whole, rest) =
    then_is (with_object table scale before object) (joined before given) (λ now. with_objects table scale now objects) (joined before more)
    (then_is (meaning_of object.kind table scale object.at (lists_in object)) given (λ more. Ok (joined before more)) (joined before given) (given_object table scale object so.0 given gives) refl)
    (all_meant table scale objects so.1 (joined before given) others rest ∙ ap (λ o. Ok o) (joined_twice before given others ∙ ap (joined before) (sym whole)))

pub all_fault : (table : List (List ℕ)) (scale : Scale) (objects : List Object) → AllLegible objects → (before : Objects) (f : ObjectFault) → with_objects table scale before objects ≡ Err f → IsFirstAmong table scale objects f
all_fault table scale [] so before f e = absurd (ok_not_err before f e)
all_fault table scale (object ∷ objects) so before f e =
    elim (which_part (with_object table scale before object) (λ now. with_objects table scale now objects) f e) [
      | inl h ↦ elim (which_part (meaning_of object.kind table scale object.at (lists_in object)) (λ more. Ok (joined before more)) f h) [
        | inl bad ↦ record { before = []; object = object; after = objects; parts = refl; good = tt; bad = object_fault table scale object so.0 f bad }
        | inr good ↦ absurd (ok_not_err (joined before good.0) f good.2)
      ]
      | inr h ↦
          (let g = both_parts (meaning_of object.kind table scale object.at (lists_in object)) (λ more. Ok (joined before more)) h.0 h.1 in
          let rest = all_fault table scale objects so.1 h.0 f h.2 in
          record {
            before = object ∷ rest.before;
            object = rest.object;
            after = rest.after;
            parts = ap (λ l. object ∷ l) rest.parts;
            good = (object_good table scale object so.0 g.0 g.1, rest.good);
            bad = rest.bad;
          })
    ]

stops : (table : List (List ℕ)) (scale : Scale) (front : List Object) (object : Object) (after : List Object) → AllLegible (front ++ object ∷ after) → AllByRecursion (HasNoFault table scale) front → (f : ObjectFault) → HasFirstFault table scale object f
    → (before : Objects) → with_objects table scale before (front ++ object ∷ after) ≡ Err f
stops table scale [] object after so good f has before =
    ap (λ r. r >>= λ now. with_objects table scale now after) (ap (λ r. r >>= λ more. Ok (joined before more)) (fault_object table scale object so.0 f has))
stops table scale (x ∷ front) object after so good f has before =
    let g = good_object table scale x so.0 good.0 in
    ap (λ r. r >>= λ now. with_objects table scale now (front ++ object ∷ after)) (ap (λ r. r >>= λ more. Ok (joined before more)) g.1)
    ∙ stops table scale front object after so.1 good.1 f has (joined before g.0)

pub fault_all : (table : List (List ℕ)) (scale : Scale) (objects : List Object) → AllLegible objects → (before : Objects) (f : ObjectFault) → IsFirstAmong table scale objects f → with_objects table scale before objects ≡ Err f
fault_all table scale objects so before f first =
    ap (with_objects table scale before) first.parts ∙ stops table scale first.before first.object first.after (subst AllLegible first.parts so) first.good f first.bad before

-- ---- the objects of a block are legible

abbrev AreObjectBytes : Object → Type 0
AreObjectBytes object = AreBytes object.bytes

bytes_of_objects : (fields : List WireField) → Each HoldsBytes fields → AllByRecursion AreObjectBytes (objects_of_fields fields)
bytes_of_objects [] each = tt
bytes_of_objects (field ∷ fields) (here, each) = by field.content here (bytes_of_objects fields each)
  where
    with_kind : (kind : Option ObjectKind) (bytes : List ℕ) → AreBytes bytes → (others : List Object) → AllByRecursion AreObjectBytes others → AllByRecursion AreObjectBytes (cons_option (object_by field.body_at bytes kind) others)
    with_kind None bytes are others all = all
    with_kind (Some kind) bytes are others all = (are, all)

    by : (content : Content) → InBytes content → AllByRecursion AreObjectBytes (objects_of_fields fields) → AllByRecursion AreObjectBytes (cons_option (held_object field.number field.body_at content) (objects_of_fields fields))
    by (Varint n) are all = all
    by (Fixed64 n) are all = all
    by (Bytes bytes) are all = with_kind (kind_of_field field.number) bytes are (objects_of_fields fields) all
    by (Fixed32 n) are all = all

abbrev ArePartBytes : Part → Type 0
ArePartBytes part = AreBytes part.bytes

bytes_of_parts : (number : ℕ) (fields : List WireField) → Each HoldsBytes fields → AllByRecursion ArePartBytes (parts number fields)
bytes_of_parts number [] each = tt
bytes_of_parts number (field ∷ fields) (here, each) = by (field.number == number) field.content here (bytes_of_parts number fields each)
  where
    by : (taken : Bool) (content : Content) → InBytes content → AllByRecursion ArePartBytes (parts number fields) → AllByRecursion ArePartBytes (cons_option (held_part taken field.at field.body_at content) (parts number fields))
    by taken (Varint n) are all = all
    by taken (Fixed64 n) are all = all
    by true (Bytes bytes) are all = (are, all)
    by false (Bytes bytes) are all = all
    by taken (Fixed32 n) are all = all

both_legible : NumbersAre → (objects : List Object) → AllByRecursion AreObjectBytes objects → AllByRecursion SpellsObject objects → AllLegible objects
both_legible law [] are spells = tt
both_legible law (object ∷ objects) are spells = (legible law object are.0 spells.0, both_legible law objects are.1 spells.1)

group_legible : NumbersAre → (part : Part) (objects : List Object) → AreBytes part.bytes → GivesGroup part objects → AllLegible objects
group_legible law part objects are group =
    both_legible law objects
    (subst (AllByRecursion AreObjectBytes) (sym group.objects_are) (bytes_of_objects group.fields (holds_bytes part.bytes part.body_at group.fields are group.spells)))
    (recursion_from_All SpellsObject objects group.each_spelled)

all_append : {A : Type 0} (P : A → Type 0) (xs ys : List A) → AllByRecursion P xs → AllByRecursion P ys → AllByRecursion P (xs ++ ys)
all_append P [] ys a b = b
all_append P (x ∷ xs) ys a b = (a.0, all_append P xs ys a.1 b)

groups_legible : NumbersAre → (ps : List Part) (objects : List Object) → AllByRecursion ArePartBytes ps → Together GivesGroup ps objects → AllLegible objects
groups_legible law [] objects are none = subst AllLegible (sym none) tt
groups_legible law (part ∷ ps) objects are (given, others, gives, whole, rest) =
    subst AllLegible (sym whole) (all_append Legible given others (group_legible law part given are.0 gives) (groups_legible law ps others are.1 rest))

block_legible : NumbersAre → (at : ℕ) (bytes : List ℕ) → AreBytes bytes → (block : Block) → IsPrimitiveBlock at bytes block → AllLegible block.objects
block_legible law at bytes are block is = groups_legible law (parts 2 is.fields) block.objects (bytes_of_parts 2 is.fields (holds_bytes bytes at is.fields are is.spells)) is.groups

-- ---- a block

some_same : {A : Type 0} (x y : A) → ◌≡◌ {A = Option A} (Some x) (Some y) → x ≡ y
some_same x y e = cc

none_some : {A : Type 0} (x : A) → ◌≡◌ {A = Option A} None (Some x) → ⊥
none_some x e = cc

pub block_objects : NumbersAre → (at : ℕ) (bytes : List ℕ) → AreBytes bytes → (block : Block) → IsPrimitiveBlock at bytes block → (objects : Objects) → (objects_of at block ≡ Ok objects) ↔ IsObjects block objects
unfolding objects_of
block_objects law at bytes are block is objects = (by block.texts refl, back)
  where
    so : AllLegible block.objects
    so = block_legible law at bytes are block is

    by : (texts : Option (List (List ℕ))) → block.texts ≡ texts → (table_of at texts >>= λ table. with_objects table (units_in block) no_objects block.objects) ≡ Ok objects → IsObjects block objects
    by None e h = absurd (ok_not_err objects (faults.MissingField at 1) (sym h))
    by (Some table) e h =
        let all = all_means table (units_in block) block.objects so no_objects objects h in
        record { table = table; has_table = e; joined = subst (AreJoined table (units_in block) block.objects) (sym (none_joined all.0) ∙ sym all.2) all.1 }

    back : IsObjects block objects → (table_of at block.texts >>= λ table. with_objects table (units_in block) no_objects block.objects) ≡ Ok objects
    back means =
        ap (λ t. table_of at t >>= λ table. with_objects table (units_in block) no_objects block.objects) means.has_table
        ∙ all_meant means.table (units_in block) block.objects so no_objects objects means.joined
        ∙ ap (λ o. Ok o) (none_joined objects)

pub block_fault : NumbersAre → (at : ℕ) (bytes : List ℕ) → AreBytes bytes → (block : Block) → IsPrimitiveBlock at bytes block → (fault : ObjectFault) → (objects_of at block ≡ Err fault) ↔ IsFirstOfBlock at block fault
unfolding objects_of
block_fault law at bytes are block is fault = (by block.texts refl, back)
  where
    so : AllLegible block.objects
    so = block_legible law at bytes are block is

    by : (texts : Option (List (List ℕ))) → block.texts ≡ texts → (table_of at texts >>= λ table. with_objects table (units_in block) no_objects block.objects) ≡ Err fault → IsFirstOfBlock at block fault
    by None e h = inl (e, err_one {A = Objects} fault (faults.MissingField at 1) (sym h))
    by (Some table) e h = inr (table, e, all_fault table (units_in block) block.objects so no_objects fault h)

    back : IsFirstOfBlock at block fault → (table_of at block.texts >>= λ table. with_objects table (units_in block) no_objects block.objects) ≡ Err fault
    back (inl (none, is)) = ap (λ t. table_of at t >>= λ table. with_objects table (units_in block) no_objects block.objects) none ∙ ap (λ f. Err f) (sym is)
    back (inr (table, some, first)) = ap (λ t. table_of at t >>= λ table. with_objects table (units_in block) no_objects block.objects) some ∙ fault_all table (units_in block) block.objects so no_objects fault first
