-- Headers, string tables and objects are what the format says they are.
use Rattle.std.proofs.Common.{◌≡◌, ℕ, eqb, cond, ◌||◌, Bool, true, false, List, [], ◌∷◌, ◌++◌, map, Result, Ok, ◌↔◌, refl, sym, ap, ◌∙◌, subst, inl, inr, append_assoc}
use Rattle.std.proofs.lemmas.List.{append-nil}
use Rattle.std.specs.List.{cons_option}
use Rattle.wire_read.specs.Varint.{AreBytes}
use Rattle.wire_read.specs.Numbers.{SpellsNumbers}
use Rattle.wire_read.specs.Fields.{Content, Varint, Fixed64, Bytes, Fixed32, WireField}
use Rattle.wire_read.proofs.Packed.{is_read_one_way}
use Rattle.wire_read.proofs.MessageLaw.{packed_is_computed}
use Rattle.osm_messages.specs.declared.fault.MessageFault.{MessageFault}
use Rattle.osm_messages.specs.Walks.{steps, walk, with_bytes}
use Rattle.osm_messages.specs.Texts.{text_step, texts_in}
use Rattle.osm_messages.specs.Headers.{feature_step, features_in}
use Rattle.osm_messages.specs.declared.kind.ObjectKind.{ObjectKind}
use Rattle.osm_messages.specs.declared.kind.ObjectKind.TheVariants as kinds
use Rattle.osm_messages.specs.Numbers.{shape_of, is_field_among, with_number, with_packed, with_held, number_step, numbers_in}
use Rattle.osm_messages.specs.Means.{Part, held_part, parts, Together, IsHeaderBlock, IsStringTable, holds_one, holds_many, HoldsPacked, HoldsNumbers, GivesNumbers, IsObject}
use Rattle.osm_messages.proofs.Walks.{bind_ok}
use Rattle.osm_messages.proofs.Meant.{ok_is, not_broken, InBytes, HoldsBytes, IsMeant, message_means, Behind, Appends, appends_meant, via, moved, one_more}

-- ---- what each field of a number holds, put behind

abbrev Taken : {B : Type 0} → (Part → B) → ℕ → List B → List WireField → List B → Type 0
Taken view number s fields t = t ≡ s ++ map view (parts number fields)

-- a step that puts it there, if it is to be taken
abbrev pub take_step : {B : Type 0} → (Part → B) → Bool → List B → ℕ → ℕ → Content → Result (List B) MessageFault
take_step view b s at body_at content =
    with_bytes s content (λ bytes. Ok (cond b (s ++ view (record { at = at; body_at = body_at; bytes = bytes }) ∷ []) s))

taken : {B : Type 0} (view : Part → B) (b : Bool) (s t : List B) (at body_at : ℕ) (content : Content) (others : List Part)
    → ((u : List B) × (take_step view b s at body_at content ≡ Ok u) × (t ≡ u ++ map view others)) ↔ (t ≡ s ++ map view (cons_option (held_part b at body_at content) others))
taken view b s t at body_at (Varint n) others = moved s (λ u. t ≡ u ++ map view others)
taken view b s t at body_at (Fixed64 n) others = moved s (λ u. t ≡ u ++ map view others)
taken view true s t at body_at (Bytes bytes) others =
    let part : Part = record { at = at; body_at = body_at; bytes = bytes } in
    via (moved (s ++ view part ∷ []) (λ u. t ≡ u ++ map view others)) (one_more s (map view others) t (view part))
taken view false s t at body_at (Bytes bytes) others = moved s (λ u. t ≡ u ++ map view others)
taken view b s t at body_at (Fixed32 n) others = moved s (λ u. t ≡ u ++ map view others)

begins : {B : Type 0} (s t : List B) → (s ≡ t) ↔ (t ≡ s ++ [])
begins s t = (λ e. sym e ∙ sym (append-nil s), λ e. sym (append-nil s) ∙ sym e)

-- ---- headers

abbrev view_feature : Part → ℕ × List ℕ
view_feature part = (part.at, part.bytes)

features_meant : IsMeant feature_step HoldsBytes (Taken view_feature 4)
features_meant = record {
  here = begins;
  there = λ s t field fields holds. taken view_feature (eqb field.number 4) s t field.at field.body_at field.content (parts 4 fields);
}

pub header_means : (at : ℕ) (bytes : List ℕ) → AreBytes bytes → (features : List (ℕ × List ℕ)) → (features_in at bytes ≡ Ok features) ↔ IsHeaderBlock at bytes features
unfolding features_in
header_means at bytes are features =
    let both = message_means feature_step (Taken view_feature 4) features_meant [] features at bytes are in (
      λ e. let by = both.0 e in record { fields = by.fields; spells = by.spells; features_are = by.leads },
      λ is. both.1 (record { fields = is.fields; spells = is.spells; leads = is.features_are }),
    )

-- ---- string tables

abbrev view_text : Part → List ℕ
view_text part = part.bytes

texts_meant : IsMeant text_step HoldsBytes (Taken view_text 1)
texts_meant = record {
  here = begins;
  there = λ s t field fields holds. taken view_text (eqb field.number 1) s t field.at field.body_at field.content (parts 1 fields);
}

pub table_means : (at : ℕ) (bytes : List ℕ) → AreBytes bytes → (texts : List (List ℕ)) → (texts_in at bytes ≡ Ok texts) ↔ IsStringTable at bytes texts
unfolding texts_in
table_means at bytes are texts =
    let both = message_means text_step (Taken view_text 1) texts_meant [] texts at bytes are in (
      λ e. let by = both.0 e in record { fields = by.fields; spells = by.spells; texts_are = by.leads },
      λ is. both.1 (record { fields = is.fields; spells = is.spells; leads = is.texts_are }),
    )

-- ---- packed numbers of a field

abbrev tagged : ℕ → List ℕ → List (ℕ × ℕ)
tagged field held = map (λ n. (field, n)) held

pub with_numbers : (field : ℕ) (s : List (ℕ × ℕ)) (held : List ℕ) → steps (with_number field) s held ≡ Ok (s ++ tagged field held)
with_numbers field s [] = ap Ok (sym (append-nil s))
with_numbers field s (n ∷ held) = with_numbers field (s ++ (field, n) ∷ []) held ∙ ap Ok (append_assoc s ((field, n) ∷ []) (tagged field held))

packed_means : (field at : ℕ) (bytes : List ℕ) → AreBytes bytes → (s u : List (ℕ × ℕ))
    → (with_packed field s at bytes ≡ Ok u) ↔ ((held : List ℕ) × SpellsNumbers bytes held × (u ≡ s ++ tagged field held))
packed_means field at bytes are s u = (
  λ e. elim (is_read_one_way bytes at are).some [
    | inl found ↦ (found.0, found.1, sym (ok_is (s ++ tagged field found.0) u (sym (whole found.0 found.1) ∙ e)))
    | inr found ↦ absurd (not_broken (steps (with_number field) s found.0) found.1 u (sym (ap (walk (with_number field) s) ((packed_is_computed bytes at).broken found.0 found.1 found.2)) ∙ e))
  ],
  λ r. whole r.0 r.1 ∙ ap Ok (sym r.2),
)
  where
    whole : (held : List ℕ) → SpellsNumbers bytes held → with_packed field s at bytes ≡ Ok (s ++ tagged field held)
    whole held spells =
        ap (walk (with_number field) s) ((packed_is_computed bytes at).spelled held spells)
        ∙ bind_ok (steps (with_number field) s held)
        ∙ with_numbers field s held

-- ---- the numbers of an object

-- what is put behind is what these numbers are, with the number of their field
abbrev HeldBehind : ℕ → (List ℕ → Type 0) → List (ℕ × ℕ) → List (ℕ × ℕ) → Type 0
HeldBehind field Holds s u = (given : List (ℕ × ℕ)) × ((held : List ℕ) × Holds held × (given ≡ tagged field held)) × (u ≡ s ++ given)

holds_these : (field : ℕ) (these : List ℕ) (s u : List (ℕ × ℕ)) → ◌≡◌ {A = Result (List (ℕ × ℕ)) MessageFault} (Ok (s ++ tagged field these)) (Ok u) ↔ HeldBehind field (λ held. held ≡ these) s u
holds_these field these s u = (
  λ e. (tagged field these, (these, refl, refl), sym (ok_is (s ++ tagged field these) u e)),
  λ r. ap Ok (sym (r.2 ∙ ap (λ g. s ++ g) (r.1.2 ∙ ap (tagged field) r.1.1))),
)

holds_none : (field : ℕ) (s u : List (ℕ × ℕ)) → ◌≡◌ {A = Result (List (ℕ × ℕ)) MessageFault} (Ok s) (Ok u) ↔ HeldBehind field (λ held. held ≡ []) s u
holds_none field s u = (
  λ e. ([], ([], refl, refl), sym (ok_is s u e) ∙ sym (append-nil s)),
  λ r. ap Ok (sym (append-nil s) ∙ sym (r.2 ∙ ap (λ g. s ++ g) (r.1.2 ∙ ap (tagged field) r.1.1))),
)

holds_varint : (read : Bool) (field n : ℕ) (s u : List (ℕ × ℕ)) → (cond read (with_number field s n) (Ok s) ≡ Ok u) ↔ HeldBehind field (λ held. held ≡ cond read (n ∷ []) []) s u
holds_varint true field n s u = holds_these field (n ∷ []) s u
holds_varint false field n s u = holds_none field s u

holds_packed : (listed : Bool) (field at : ℕ) (bytes : List ℕ) → AreBytes bytes → (s u : List (ℕ × ℕ)) → (cond listed (with_packed field s at bytes) (Ok s) ≡ Ok u) ↔ HeldBehind field (HoldsPacked listed bytes) s u
holds_packed true field at bytes are s u =
    let both = packed_means field at bytes are s u in (
      λ e. let r = both.0 e in (tagged field r.0, (r.0, r.1, refl), r.2),
      λ r. both.1 (r.1.0, r.1.1, r.2 ∙ ap (λ g. s ++ g) r.1.2),
    )
holds_packed false field at bytes are s u = holds_none field s u

-- the fields that the program reads are those of the format
or_one : (a : Bool) → (a || false) ≡ a
or_one true = refl
or_one false = refl

or_two : (a b : Bool) → (a || (b || false)) ≡ (a || b)
or_two true b = refl
or_two false b = or_one b

or_three : (a b c : Bool) → (a || (b || (c || false))) ≡ (a || b || c)
or_three true b c = refl
or_three false b c = or_two b c

or_four : (a b c d : Bool) → (a || (b || (c || (d || false)))) ≡ (a || b || c || d)
or_four true b c d = refl
or_four false b c d = or_three b c d

or_five : (a b c d e : Bool) → (a || (b || (c || (d || (e || false))))) ≡ (a || b || c || d || e)
or_five true b c d e = refl
or_five false b c d e = or_four b c d e

one_same : (kind : ObjectKind) (n : ℕ) → is_field_among n (shape_of kind).singles ≡ holds_one kind n
one_same kinds.Node n = or_three (eqb n 1) (eqb n 8) (eqb n 9)
one_same kinds.DenseNodes n = refl
one_same kinds.Way n = or_one (eqb n 1)
one_same kinds.Relation n = or_one (eqb n 1)

lists_of_ways : (n : ℕ) → is_field_among n (shape_of kinds.Way).lists ≡ holds_many kinds.Way n
lists_of_ways n = or_three (eqb n 2) (eqb n 3) (eqb n 8)

pub many_same : (kind : ObjectKind) (n : ℕ) → is_field_among n (shape_of kind).lists ≡ holds_many kind n
many_same kinds.Node n = or_two (eqb n 2) (eqb n 3)
many_same kinds.DenseNodes n = or_four (eqb n 1) (eqb n 8) (eqb n 9) (eqb n 10)
many_same kinds.Way n = lists_of_ways n
many_same kinds.Relation n = or_five (eqb n 2) (eqb n 3) (eqb n 8) (eqb n 9) (eqb n 10)

held_means : (kind : ObjectKind) (field at : ℕ) (content : Content) → InBytes content → (s u : List (ℕ × ℕ)) → (with_held (shape_of kind) field at content s ≡ Ok u) ↔ HeldBehind field (HoldsNumbers kind field content) s u
held_means kind field at (Varint n) holds s u =
    let single = is_field_among field (shape_of kind).singles in
    let some = is_field_among field (shape_of kind).lists in
    subst (λ (b : Bool). (with_held (shape_of kind) field at (Varint n) s ≡ Ok u) ↔ HeldBehind field (λ held. held ≡ cond (holds_one kind field || b) (n ∷ []) []) s u) (many_same kind field)
    (subst (λ (b : Bool). (with_held (shape_of kind) field at (Varint n) s ≡ Ok u) ↔ HeldBehind field (λ held. held ≡ cond (b || some) (n ∷ []) []) s u) (one_same kind field) (holds_varint (single || some) field n s u))
held_means kind field at (Fixed64 n) holds s u = holds_none field s u
held_means kind field at (Bytes bytes) holds s u =
    let some = is_field_among field (shape_of kind).lists in
    subst (λ (b : Bool). (with_held (shape_of kind) field at (Bytes bytes) s ≡ Ok u) ↔ HeldBehind field (HoldsPacked b bytes) s u) (many_same kind field) (holds_packed some field at bytes holds s u)
held_means kind field at (Fixed32 n) holds s u = holds_none field s u

numbers_append : (kind : ObjectKind) → Appends (number_step (shape_of kind)) HoldsBytes (GivesNumbers kind)
numbers_append kind s u field holds = held_means kind field.number field.body_at field.content holds s u

pub object_means : (kind : ObjectKind) (at : ℕ) (bytes : List ℕ) → AreBytes bytes → (numbers : List (ℕ × ℕ)) → (numbers_in (shape_of kind) at bytes ≡ Ok numbers) ↔ IsObject kind at bytes numbers
unfolding numbers_in
object_means kind at bytes are numbers =
    let meant = appends_meant (number_step (shape_of kind)) HoldsBytes (GivesNumbers kind) (numbers_append kind) in
    let both = message_means (number_step (shape_of kind)) (Behind (GivesNumbers kind)) meant [] numbers at bytes are in (
      λ e.
          let by = both.0 e in
          record { fields = by.fields; spells = by.spells; numbers_are = subst (λ (w : List (ℕ × ℕ)). Together (GivesNumbers kind) by.fields w) (sym by.leads.2) by.leads.1 },
      λ is. both.1 (record { fields = is.fields; spells = is.spells; leads = (numbers, is.numbers_are, refl) }),
    )
