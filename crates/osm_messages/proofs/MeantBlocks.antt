-- Blocks are what the format says they are.
use Rattle.std.proofs.Common.{◌≡◌, ℕ, eqb, cond, Bool, true, false, List, [], ◌∷◌, ◌++◌, Option, Some, None, Result, Ok, Err, ◌↔◌, is_some, ◌&&◌, refl, sym, ap, ◌∙◌, subst, inl, inr, append_assoc}
use Rattle.std.proofs.lemmas.Bool.{cases_Bool, eqb-true}
use Rattle.std.proofs.lemmas.List.{append-nil}
use Rattle.std.specs.Int.{w64, cast_signed}
use Rattle.std.specs.List.{cons_option}
use Rattle.wire_read.specs.Varint.{AreBytes}
use Rattle.wire_read.specs.Fields.{Content, Varint, Fixed64, Bytes, Fixed32, WireField}
use Rattle.osm_messages.specs.declared.fault.MessageFault.{MessageFault}
use Rattle.osm_messages.specs.declared.fault.MessageFault.TheVariants as faults
use Rattle.osm_messages.specs.Walks.{◌>>=◌}
use Rattle.osm_messages.specs.Texts.{texts_in}
use Rattle.osm_messages.specs.Groups.{Object, group_in}
use Rattle.osm_messages.specs.Blocks.{Block, no_block, with_table, with_group, with_field, block_step, block_in}
use Rattle.osm_messages.specs.Means.{Part, held_part, held_varint, parts, varints, Together, HasTable, GivesGroup, last_signed, IsStringTable, IsPrimitiveBlock}
use Rattle.osm_messages.proofs.Meant.{ok_is, parts_of, InBytes, HoldsBytes, IsMeant, message_means, moved, stopped}
use Rattle.osm_messages.proofs.MeantNumbers.{table_means}
use Rattle.osm_messages.proofs.MeantGroups.{group_means}

-- ---- from one block to another one

-- what the fields hold that are left
pub record Left : Type 0 where
  pub tables : List Part
  pub groups : List Part
  pub units : List ℕ
  pub lats : List ℕ
  pub lons : List ℕ

abbrev pub left_of : List WireField → Left
left_of fields = record { tables = parts 1 fields; groups = parts 2 fields; units = varints 17 fields; lats = varints 19 fields; lons = varints 20 fields }

-- a table that was there stays, and no other one comes
abbrev pub TableFrom : Option (List (List ℕ)) → List Part → Option (List (List ℕ)) → Type 0
TableFrom None tables texts = HasTable tables texts
TableFrom (Some old) tables texts = (tables ≡ []) × (texts ≡ Some old)

-- the parts of the later block, of which those were there before
pub record PartsBy (texts : Option (List (List ℕ))) (objects : List Object) (tables groups : List Part) (t : Block) : Type 0 where
  pub table : TableFrom texts tables t.texts
  pub more : List Object
  pub given : Together GivesGroup groups more
  pub whole : t.objects ≡ objects ++ more

-- its scalars
abbrev pub ScalarsBy : Block → Left → Block → Type 0
ScalarsBy block left t =
    (t.granularity ≡ last_signed block.granularity left.units)
    × (t.lat_offset ≡ last_signed block.lat_offset left.lats)
    × (t.lon_offset ≡ last_signed block.lon_offset left.lons)

abbrev pub BlockBy : Block → Left → Block → Type 0
BlockBy block left t = PartsBy block.texts block.objects left.tables left.groups t × ScalarsBy block left t

abbrev BlockFrom : Block → List WireField → Block → Type 0
BlockFrom block fields t = BlockBy block (left_of fields) t

-- ---- nothing is left

same_table : (old new : Option (List (List ℕ))) → (old ≡ new) ↔ TableFrom old [] new
same_table None new = (λ e. sym e, λ e. sym e)
same_table (Some texts) new = (λ e. (refl, sym e), λ r. sym r.1)

same_parts : (s t : Block) → s.texts ≡ t.texts → s.objects ≡ t.objects → s.granularity ≡ t.granularity → s.lat_offset ≡ t.lat_offset → s.lon_offset ≡ t.lon_offset → s ≡ t
same_parts s t a b c d e =
    ap (λ x. record s { texts = x }) a
    ∙ ap (λ x. record s { texts = t.texts; objects = x }) b
    ∙ ap (λ x. record s { texts = t.texts; objects = t.objects; granularity = x }) c
    ∙ ap (λ x. record s { texts = t.texts; objects = t.objects; granularity = t.granularity; lat_offset = x }) d
    ∙ ap (λ x. record s { texts = t.texts; objects = t.objects; granularity = t.granularity; lat_offset = t.lat_offset; lon_offset = x }) e

pub same_block : (s t : Block) → (s ≡ t) ↔ BlockFrom s [] t
same_block s t = (
  λ e. (
    record {
      table = (same_table s.texts t.texts).0 (ap (λ (b : Block). b.texts) e);
      more = [];
      given = refl;
      whole = sym (ap (λ (b : Block). b.objects) e) ∙ sym (append-nil s.objects);
    },
    (sym (ap (λ (b : Block). b.granularity) e), sym (ap (λ (b : Block). b.lat_offset) e), sym (ap (λ (b : Block). b.lon_offset) e)),
  ),
  λ by.
      let texts = (same_table s.texts t.texts).1 by.0.table in
      let objects : s.objects ≡ t.objects = sym (append-nil s.objects) ∙ sym (ap (λ (l : List Object). s.objects ++ l) by.0.given) ∙ sym by.0.whole in
      same_parts s t texts objects (sym by.1.0) (sym by.1.1) (sym by.1.2),
)

-- ---- a field that holds bytes

-- a block with these texts; with the objects of a group more
abbrev texted : Block → List (List ℕ) → Block
texted block texts = record block { texts = Some texts }

abbrev grouped : Block → List Object → Block
grouped block objects = record block { objects = block.objects ++ objects }

-- what one table says
only : (part : Part) (others : List Part) (texts : Option (List (List ℕ))) → HasTable (part ∷ others) texts → (found : List (List ℕ)) × IsStringTable part.body_at part.bytes found × (others ≡ []) × (texts ≡ Some found)
only part [] texts has = (has.0, has.1, refl, has.2)
only part (other ∷ others) texts has = absurd has

pub not_empty : (part : Part) (others : List Part) → ◌≡◌ {A = List Part} (part ∷ others) [] → ⊥
not_empty part others e = cc

-- a table more
table_left : (old : Option (List (List ℕ))) (block : Block) (at : ℕ) (part : Part) (left : Left) (t : Block) → AreBytes part.bytes → block.texts ≡ old
    → ((u : Block) × (cond (is_some old) (Err (faults.Repeated at 1)) (texts_in part.body_at part.bytes >>= λ texts. Ok (texted block texts)) ≡ Ok u) × BlockBy u left t) ↔ BlockBy block (record left { tables = part ∷ left.tables }) t
table_left (Some old) block at part left t are is =
    stopped (faults.Repeated at 1) (λ u. BlockBy u left t) (λ by. not_empty part left.tables (subst (λ (o : Option (List (List ℕ))). TableFrom o (part ∷ left.tables) t.texts) is by.0.table).0)
table_left None block at part left t are is = (
  λ w.
      let texts = parts_of (texts_in part.body_at part.bytes) (λ texts. Ok (texted block texts)) w.0 w.1 in
      let by : BlockBy (texted block texts.0) left t = subst (λ (u : Block). BlockBy u left t) (sym (ok_is (texted block texts.0) w.0 texts.2)) w.2 in
      let found = (table_means part.body_at part.bytes are texts.0).0 texts.1 in
      let table : HasTable (part ∷ left.tables) t.texts = subst (λ (tables : List Part). HasTable (part ∷ tables) t.texts) (sym by.0.table.0) (texts.0, found, by.0.table.1) in (
        record {
          table = subst (λ (o : Option (List (List ℕ))). TableFrom o (part ∷ left.tables) t.texts) (sym is) table;
          more = by.0.more;
          given = by.0.given;
          whole = by.0.whole;
        },
        by.1,
      ),
  λ by.
      let one = only part left.tables t.texts (subst (λ (o : Option (List (List ℕ))). TableFrom o (part ∷ left.tables) t.texts) is by.0.table) in (
        texted block one.0,
        ap (λ r. r >>= λ texts. Ok (texted block texts)) ((table_means part.body_at part.bytes are one.0).1 one.1),
        (record { table = (one.2, one.3); more = by.0.more; given = by.0.given; whole = by.0.whole }, by.1),
      ),
)

-- a group more
group_left : (block : Block) (part : Part) (left : Left) (t : Block) → AreBytes part.bytes
    → ((u : Block) × (with_group block part.body_at part.bytes ≡ Ok u) × BlockBy u left t) ↔ BlockBy block (record left { groups = part ∷ left.groups }) t
group_left block part left t are = (
  λ w.
      let objects = parts_of (group_in part.body_at part.bytes) (λ objects. Ok (grouped block objects)) w.0 w.1 in
      let by : BlockBy (grouped block objects.0) left t = subst (λ (u : Block). BlockBy u left t) (sym (ok_is (grouped block objects.0) w.0 objects.2)) w.2 in
      let is = (group_means part.body_at part.bytes are objects.0).0 objects.1 in (
        record {
          table = by.0.table;
          more = objects.0 ++ by.0.more;
          given = (objects.0, by.0.more, is, refl, by.0.given);
          whole = by.0.whole ∙ append_assoc block.objects objects.0 by.0.more;
        },
        by.1,
      ),
  λ by.
      let first = by.0.given.0 in
      let others = by.0.given.1 in (
        grouped block first,
        ap (λ r. r >>= λ objects. Ok (grouped block objects)) ((group_means part.body_at part.bytes are first).1 by.0.given.2),
        (
          record {
            table = by.0.table;
            more = others;
            given = by.0.given.4;
            whole = by.0.whole ∙ ap (λ (l : List Object). block.objects ++ l) by.0.given.3 ∙ sym (append_assoc block.objects first others);
          },
          by.1,
        ),
      ),
)

-- one of the two, or neither
pub true_not_false : true ≡ false → ⊥
true_not_false e = cc

part_by : (one two : Bool) (block : Block) (at : ℕ) (part : Part) (left : Left) (t : Block) → AreBytes part.bytes → (one && two) ≡ false
    → ((u : Block) × (cond one (with_table block at part.body_at part.bytes) (cond two (with_group block part.body_at part.bytes) (Ok block)) ≡ Ok u) × BlockBy u left t)
    ↔ BlockBy block (record left { tables = cons_option (cond one (Some part) None) left.tables; groups = cons_option (cond two (Some part) None) left.groups }) t
part_by true true block at part left t are apart = absurd (true_not_false apart)
part_by true false block at part left t are apart = table_left block.texts block at part left t are refl
part_by false true block at part left t are apart = group_left block part left t are
part_by false false block at part left t are apart = moved block (λ u. BlockBy u left t)

-- ---- a field that holds a varint

scalar_by : (unit lat lon : Bool) (block : Block) (n : ℕ) (left : Left) (t : Block) → (unit && lat) ≡ false → (unit && lon) ≡ false → (lat && lon) ≡ false
    → ((u : Block) × ◌≡◌ {A = Result Block MessageFault} (Ok (cond unit (record block { granularity = cast_signed w64 n }) (cond lat (record block { lat_offset = cast_signed w64 n }) (cond lon (record block { lon_offset = cast_signed w64 n }) block)))) (Ok u) × BlockBy u left t)
    ↔ BlockBy block (record left { units = cons_option (cond unit (Some n) None) left.units; lats = cons_option (cond lat (Some n) None) left.lats; lons = cons_option (cond lon (Some n) None) left.lons }) t
scalar_by true true lon block n left t a b c = absurd (true_not_false a)
scalar_by true false true block n left t a b c = absurd (true_not_false b)
scalar_by true false false block n left t a b c = moved (record block { granularity = cast_signed w64 n }) (λ u. BlockBy u left t)
scalar_by false true true block n left t a b c = absurd (true_not_false c)
scalar_by false true false block n left t a b c = moved (record block { lat_offset = cast_signed w64 n }) (λ u. BlockBy u left t)
scalar_by false false true block n left t a b c = moved (record block { lon_offset = cast_signed w64 n }) (λ u. BlockBy u left t)
scalar_by false false false block n left t a b c = moved block (λ u. BlockBy u left t)

-- ---- one field

-- no field has two numbers
pub apart_1_2 : (n : ℕ) → (eqb n 1 && eqb n 2) ≡ false
apart_1_2 n = elim (cases_Bool (eqb n 1)) [
  | inl e ↦ rw (eqb-true n 1 e) refl
  | inr e ↦ rw e refl
]

apart_17_19 : (n : ℕ) → (eqb n 17 && eqb n 19) ≡ false
apart_17_19 n = elim (cases_Bool (eqb n 17)) [
  | inl e ↦ rw (eqb-true n 17 e) refl
  | inr e ↦ rw e refl
]

apart_17_20 : (n : ℕ) → (eqb n 17 && eqb n 20) ≡ false
apart_17_20 n = elim (cases_Bool (eqb n 17)) [
  | inl e ↦ rw (eqb-true n 17 e) refl
  | inr e ↦ rw e refl
]

apart_19_20 : (n : ℕ) → (eqb n 19 && eqb n 20) ≡ false
apart_19_20 n = elim (cases_Bool (eqb n 19)) [
  | inl e ↦ rw (eqb-true n 19 e) refl
  | inr e ↦ rw e refl
]

-- what a field adds to what is left
abbrev pub left_more : ℕ → ℕ → ℕ → Content → Left → Left
left_more number at body_at content left = record {
  tables = cons_option (held_part (eqb number 1) at body_at content) left.tables;
  groups = cons_option (held_part (eqb number 2) at body_at content) left.groups;
  units = cons_option (held_varint (eqb number 17) content) left.units;
  lats = cons_option (held_varint (eqb number 19) content) left.lats;
  lons = cons_option (held_varint (eqb number 20) content) left.lons;
}

pub field_means : (block : Block) (field : WireField) (content : Content) (left : Left) (t : Block) → InBytes content
    → ((u : Block) × (with_field block field content ≡ Ok u) × BlockBy u left t) ↔ BlockBy block (left_more field.number field.at field.body_at content left) t
field_means block field (Varint n) left t holds = scalar_by (eqb field.number 17) (eqb field.number 19) (eqb field.number 20) block n left t (apart_17_19 field.number) (apart_17_20 field.number) (apart_19_20 field.number)
field_means block field (Fixed64 n) left t holds = moved block (λ u. BlockBy u left t)
field_means block field (Bytes bytes) left t holds =
    part_by (eqb field.number 1) (eqb field.number 2) block field.at (record { at = field.at; body_at = field.body_at; bytes = bytes }) left t holds (apart_1_2 field.number)
field_means block field (Fixed32 n) left t holds = moved block (λ u. BlockBy u left t)

-- ---- the block

block_meant : IsMeant block_step HoldsBytes BlockFrom
block_meant = record {
  here = same_block;
  there = λ s t field fields holds. field_means s field field.content (left_of fields) t holds;
}

pub block_means : (at : ℕ) (bytes : List ℕ) → AreBytes bytes → (block : Block) → (block_in at bytes ≡ Ok block) ↔ IsPrimitiveBlock at bytes block
unfolding block_in
block_means at bytes are block =
    let both = message_means block_step BlockFrom block_meant no_block block at bytes are in (
      λ e.
          let by = both.0 e in
          let found = by.leads.0 in
          record {
            fields = by.fields;
            spells = by.spells;
            table = found.table;
            groups = subst (λ (l : List Object). Together GivesGroup (parts 2 by.fields) l) (sym found.whole) found.given;
            granularity = by.leads.1.0;
            lat_offset = by.leads.1.1;
            lon_offset = by.leads.1.2;
          },
      λ is. both.1 (record {
        fields = is.fields;
        spells = is.spells;
        leads = (record { table = is.table; more = block.objects; given = is.groups; whole = refl }, (is.granularity, is.lat_offset, is.lon_offset));
      }),
    )
