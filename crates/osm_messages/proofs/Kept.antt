-- The numbers of each object of a block are spelled.
use Rattle.std.proofs.Common.{◌≡◌, ℕ, eqb, cond, Bool, true, false, List, [], ◌∷◌, ◌++◌, All, Option, Some, None, Result, Ok, Err, refl, sym, subst}
use Rattle.std.specs.Prelude.{IsOk, is_some}
use Rattle.std.proofs.lemmas.List.Elements.{All-nil, All-push, All-append}
use Rattle.wire_read.specs.declared.fault.WireFault.{WireFault}
use Rattle.wire_read.specs.Fields.{Content, Varint, Fixed64, Bytes, Fixed32, WireField, Listed, message_of}
use Rattle.osm_messages.specs.declared.fault.MessageFault.{MessageFault}
use Rattle.osm_messages.specs.declared.kind.ObjectKind.TheVariants as kinds
use Rattle.osm_messages.specs.Walks.{◌>>=◌, steps, with_end, walk, with_bytes}
use Rattle.osm_messages.specs.Numbers.{shape_of, numbers_in}
use Rattle.osm_messages.specs.Texts.{texts_in}
use Rattle.osm_messages.specs.Groups.{Object, has_dense, with_object, with_dense, object_of, with_member, group_step, group_in, HasNumbers}
use Rattle.osm_messages.specs.Blocks.{Block, no_block, with_table, with_group, with_scalar, with_field, block_step, block_in}

-- ---- what each step keeps holds in the end

-- where a step leads to a value, this holds of it
abbrev After : {A : Type 0} → (A → Type 0) → Result A MessageFault → Type 0
After P (Ok x) = P x
After P (Err d) = Unit {0}

after_bind : {A B : Type 0} (P : A → Type 0) (Q : B → Type 0) (r : Result A MessageFault) (f : A → Result B MessageFault) → After P r → ((x : A) → P x → After Q (f x)) → After Q (r >>= f)
after_bind P Q (Ok x) f p next = next x p
after_bind P Q (Err d) f p next = tt

after_cond : {A : Type 0} (P : A → Type 0) (b : Bool) (r t : Result A MessageFault) → After P r → After P t → After P (cond b r t)
after_cond P true r t p q = p
after_cond P false r t p q = q

after_ended : {S : Type 0} (P : S → Type 0) (fault : Option WireFault) (s : S) → P s → After P (with_end fault s)
after_ended P None s p = p
after_ended P (Some d) s p = tt

after_steps : {S A : Type 0} (P : S → Type 0) (step : S → A → Result S MessageFault) → ((s : S) (x : A) → P s → After P (step s x)) → (s : S) (xs : List A) → P s → After P (steps step s xs)
after_steps P step keeps s [] p = p
after_steps P step keeps s (x ∷ xs) p =
    after_bind P P (step s x) (λ t. steps step t xs) (keeps s x p) (λ t q. after_steps P step keeps t xs q)

after_walk : {S A : Type 0} (P : S → Type 0) (step : S → A → Result S MessageFault) → ((s : S) (x : A) → P s → After P (step s x)) → (s : S) (list : Listed A) → P s → After P (walk step s list)
after_walk P step keeps s list p =
    after_bind P P (steps step s list.items) (with_end list.fault) (after_steps P step keeps s list.items p) (λ t q. after_ended P list.fault t q)

-- ---- groups

abbrev AllSpelled : List Object → Type 0
AllSpelled objects = All HasNumbers objects

-- the numbers are what was asked for
after_object : (objects : List Object) (object : Object) (r : Result (List (ℕ × ℕ)) MessageFault) → numbers_in (shape_of object.kind) object.at object.bytes ≡ r → AllSpelled objects → After AllSpelled (r >>= λ _. Ok (objects ++ object ∷ []))
after_object objects object (Ok numbers) e all = All-push HasNumbers objects object all (subst (λ (q : Result (List (ℕ × ℕ)) MessageFault). IsOk q) (sym e) refl)
after_object objects object (Err d) e all = tt

with_object-keeps : (objects : List Object) (object : Object) → AllSpelled objects → After AllSpelled (with_object objects object)
with_object-keeps objects object all = after_object objects object (numbers_in (shape_of object.kind) object.at object.bytes) refl all

with_dense-keeps : (objects : List Object) (at : ℕ) (object : Object) → AllSpelled objects → After AllSpelled (with_dense objects at object)
with_dense-keeps objects at object all = after_cond AllSpelled (has_dense objects) _ _ tt (with_object-keeps objects object all)

with_member-keeps : (objects : List Object) (field : WireField) (bytes : List ℕ) → AllSpelled objects → After AllSpelled (with_member objects field bytes)
with_member-keeps objects field bytes all =
    after_cond AllSpelled (eqb field.number 1) _ _ (with_object-keeps objects (object_of kinds.Node field bytes) all)
    (after_cond AllSpelled (eqb field.number 2) _ _ (with_dense-keeps objects field.at (object_of kinds.DenseNodes field bytes) all)
    (after_cond AllSpelled (eqb field.number 3) _ _ (with_object-keeps objects (object_of kinds.Way field bytes) all)
    (after_cond AllSpelled (eqb field.number 4) _ _ (with_object-keeps objects (object_of kinds.Relation field bytes) all) all)))

held-keeps : (objects : List Object) (field : WireField) (content : Content) → AllSpelled objects → After AllSpelled (with_bytes objects content (with_member objects field))
held-keeps objects field (Varint n) all = all
held-keeps objects field (Fixed64 n) all = all
held-keeps objects field (Bytes bytes) all = with_member-keeps objects field bytes all
held-keeps objects field (Fixed32 n) all = all

group-spelled : (at : ℕ) (bytes : List ℕ) → After AllSpelled (group_in at bytes)
unfolding group_in
group-spelled at bytes = after_walk AllSpelled group_step (λ objects field all. held-keeps objects field field.content all) [] (message_of at bytes) (All-nil HasNumbers)

-- ---- blocks

abbrev IsSpelled : Block → Type 0
IsSpelled block = AllSpelled block.objects

any : {A : Type 0} (r : Result A MessageFault) → After (λ _. Unit {0}) r
any (Ok x) = tt
any (Err d) = tt

with_table-keeps : (block : Block) (at body_at : ℕ) (bytes : List ℕ) → IsSpelled block → After IsSpelled (with_table block at body_at bytes)
with_table-keeps block at body_at bytes all =
    after_cond IsSpelled (is_some block.texts) _ _ tt
    (after_bind (λ (_ : List (List ℕ)). Unit {0}) IsSpelled (texts_in body_at bytes) _ (any (texts_in body_at bytes)) (λ texts _. all))

with_group-keeps : (block : Block) (at : ℕ) (bytes : List ℕ) → IsSpelled block → After IsSpelled (with_group block at bytes)
with_group-keeps block at bytes all = after_bind AllSpelled IsSpelled (group_in at bytes) _ (group-spelled at bytes) (λ objects more. All-append HasNumbers block.objects objects all more)

either : {A : Type 0} (P : A → Type 0) (b : Bool) (x y : A) → P x → P y → P (cond b x y)
either P true x y p q = p
either P false x y p q = q

with_scalar-keeps : (block : Block) (number n : ℕ) → IsSpelled block → IsSpelled (with_scalar block number n)
with_scalar-keeps block number n all =
    either IsSpelled (eqb number 17) _ _ all (either IsSpelled (eqb number 19) _ _ all (either IsSpelled (eqb number 20) _ _ all all))

with_field-keeps : (block : Block) (field : WireField) (content : Content) → IsSpelled block → After IsSpelled (with_field block field content)
with_field-keeps block field (Varint n) all = with_scalar-keeps block field.number n all
with_field-keeps block field (Fixed64 n) all = all
with_field-keeps block field (Bytes bytes) all =
    after_cond IsSpelled (eqb field.number 1) _ _ (with_table-keeps block field.at field.body_at bytes all)
    (after_cond IsSpelled (eqb field.number 2) _ _ (with_group-keeps block field.body_at bytes all) all)
with_field-keeps block field (Fixed32 n) all = all

block-spelled : (at : ℕ) (bytes : List ℕ) → After IsSpelled (block_in at bytes)
unfolding block_in
block-spelled at bytes = after_walk IsSpelled block_step (λ block field all. with_field-keeps block field field.content all) no_block (message_of at bytes) (All-nil HasNumbers)

-- the numbers of each object of a block are spelled
pub all_spelled : (at : ℕ) (bytes : List ℕ) (block : Block) → block_in at bytes ≡ Ok block → All HasNumbers block.objects
all_spelled at bytes block e = subst (After IsSpelled) e (block-spelled at bytes)
