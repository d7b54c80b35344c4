-- Each restriction is one row or one skip.
use Rattle.std.proofs.Common.{◌≡◌, Bool, true, false, not, cond, ℤ, refl, sym, subst, ap, ◌∙◌, List, [], ◌∷◌}
use Rattle.std.specs.Prelude.{Option, Some, None, Result, Ok, Err, filter_map, ◌==◌}
use Rattle.std.specs.List.{cons_option}
use Rattle.std.proofs.lemmas.Option.{same_Some}
use Rattle.std.proofs.lemmas.Bool.{both_ways, eqb-true, eqb-false}
use Rattle.osm_model.specs.declared.relations.OsmRelation.{OsmRelation}
use Rattle.osm_model.specs.Extract.{RelationsRise}
use Rattle.osm_restrictions.specs.declared.rows.Via.{Via}
use Rattle.osm_restrictions.specs.declared.rows.TurnRow.{TurnRow}
use Rattle.osm_restrictions.specs.declared.rows.Skipped.{Skipped}
use Rattle.osm_restrictions.specs.declared.rows.SkipReason.{SkipReason}
use Rattle.osm_restrictions.specs.declared.rows.SkipReason.TheVariants as skips
use Rattle.osm_restrictions.specs.Keys.{is_restriction, is_conditional}
use Rattle.osm_restrictions.specs.Kinds.{KindRow}
use Rattle.osm_restrictions.specs.Members.{via_of}
use Rattle.osm_restrictions.specs.Exceptions.{restricted_modes}
use Rattle.osm_restrictions.specs.Turns.{kind_of, is_from_right, is_to_right, through_via, of_kind, turn_of}
use Rattle.osm_restrictions.specs.Rows.{row_in, skipped_in, row_of, skipped_of}
use Rattle.osm_restrictions.specs.Reasons.{HasReason, IsSkippedFor, IsTurn, Tell, no_relation, no_restriction, one_row, one_skip, RowsRise, SkipsRise}
use Rattle.osm_restrictions.proofs.Rises.{given_rise}

-- what an outcome says
abbrev pub Says : OsmRelation → Result TurnRow SkipReason → Type 0
Says relation (Ok row) = IsTurn relation row
Says relation (Err reason) = IsSkippedFor relation reason

-- another kind than the relation's own has no say
own_kind : (relation : OsmRelation) (kind : KindRow) (test : KindRow → Bool) → kind_of relation ≡ Some kind → test kind ≡ true → (other : KindRow) → kind_of relation ≡ Some other → test other ≡ false → ⊥
own_kind relation kind test at right other at_other wrong =
    both_ways (test kind) (subst (λ k. test k ≡ false) (same other kind (sym at_other ∙ at)) wrong) right
  where
    same : (a b : KindRow) → Some a ≡ Some b → a ≡ b
    same a b e = cc

module _ (relation : OsmRelation) (plain : is_conditional relation.tags ≡ false) where
  unconditional : HasReason relation skips.Conditional → ⊥
  unconditional h = both_ways (is_conditional relation.tags) plain h

  module _ (kind : KindRow) (at : kind_of relation ≡ Some kind) where
    known : HasReason relation skips.UnknownKind → ⊥
    known h = cc

    module _ (some : HasReason relation skips.NoModes → ⊥) where
      module _ (from : is_from_right relation kind ≡ true) where
        from_right : HasReason relation skips.WrongFrom → ⊥
        from_right (other, at_other, wrong) = own_kind relation kind (is_from_right relation) at from other at_other wrong

        module _ (to : is_to_right relation kind ≡ true) where
          to_right : HasReason relation skips.WrongTo → ⊥
          to_right (other, at_other, wrong) = own_kind relation kind (is_to_right relation) at to other at_other wrong

          by_via : (via : Option Via) → via_of relation.members ≡ via → Says relation (through_via relation kind via)
          by_via None is = record { has = is; first = (unconditional, (known, (some, (from_right, (to_right, tt))))) }
          by_via (Some via) is =
              record {
                kind = kind;
                kind_is = at;
                unskipped = (unconditional, (known, (some, (from_right, (to_right, ((λ h. cc), tt))))));
                id = refl;
                only = refl;
                u_turn = refl;
                from = refl;
                via = sym is;
                to = refl;
                modes = refl;
              }

        by_to : (b : Bool) → is_to_right relation kind ≡ b → Says relation (cond (not b) (Err skips.WrongTo) (through_via relation kind (via_of relation.members)))
        by_to true to = by_via to (via_of relation.members) refl
        by_to false wrong = record { has = (kind, at, wrong); first = (unconditional, (known, (some, (from_right, tt)))) }

      by_from : (b : Bool) → is_from_right relation kind ≡ b → Says relation (cond (not b) (Err skips.WrongFrom) (cond (not (is_to_right relation kind)) (Err skips.WrongTo) (through_via relation kind (via_of relation.members))))
      by_from true from = by_to from (is_to_right relation kind) refl
      by_from false wrong = record { has = (kind, at, wrong); first = (unconditional, (known, (some, tt))) }

    by_modes : (b : Bool) → (restricted_modes relation.tags == 0) ≡ b → Says relation (cond b (Err skips.NoModes) (cond (not (is_from_right relation kind)) (Err skips.WrongFrom) (cond (not (is_to_right relation kind)) (Err skips.WrongTo) (through_via relation kind (via_of relation.members)))))
    by_modes true none = record { has = eqb-true (restricted_modes relation.tags) 0 none; first = (unconditional, (known, tt)) }
    by_modes false some = by_from (λ h. eqb-false (restricted_modes relation.tags) 0 some h) (is_from_right relation kind) refl

  by_kind : (kind : Option KindRow) → kind_of relation ≡ kind → Says relation (of_kind relation kind)
  by_kind None is = record { has = is; first = (unconditional, tt) }
  by_kind (Some kind) at = by_modes kind at (restricted_modes relation.tags == 0) refl

by_condition : (relation : OsmRelation) (b : Bool) → is_conditional relation.tags ≡ b → Says relation (cond b (Err skips.Conditional) (of_kind relation (kind_of relation)))
by_condition relation true is = record { has = is; first = tt }
by_condition relation false plain = by_kind relation plain (kind_of relation) refl

pub says : (relation : OsmRelation) → Says relation (turn_of relation)
says relation = by_condition relation (is_conditional relation.tags) refl

pub told : (relations : List OsmRelation) → Tell relations (filter_map row_of relations) (filter_map skipped_of relations)
told [] = no_relation
told (relation ∷ relations) = by (is_restriction relation.tags) refl (turn_of relation) (says relation) (told relations)
  where
    by : (b : Bool) → is_restriction relation.tags ≡ b → (turn : Result TurnRow SkipReason) → Says relation turn → Tell relations (filter_map row_of relations) (filter_map skipped_of relations) → Tell (relation ∷ relations) (cons_option (cond b (row_in turn) None) (filter_map row_of relations)) (cons_option (cond b (skipped_in relation.id turn) None) (filter_map skipped_of relations))
    by false is turn h rest = no_restriction relation relations (filter_map row_of relations) (filter_map skipped_of relations) is rest
    by true is (Ok row) h rest = one_row relation relations row (filter_map row_of relations) (filter_map skipped_of relations) is h rest
    by true is (Err reason) h rest = one_skip relation relations reason (filter_map row_of relations) (filter_map skipped_of relations) is h rest

-- each row and each skip has the id of its relation
row_id : (relation : OsmRelation) (turn : Result TurnRow SkipReason) → Says relation turn → (row : TurnRow) → row_in turn ≡ Some row → row.relation ≡ relation.id
row_id relation (Ok own) h row e = sym (ap (λ (r : TurnRow). r.relation) (same_Some own row e)) ∙ h.id
row_id relation (Err reason) h row e = absurd (cc)

skip_id : (id : ℤ) (turn : Result TurnRow SkipReason) (skip : Skipped) → skipped_in id turn ≡ Some skip → skip.relation ≡ id
skip_id id (Ok row) skip e = absurd (cc)
skip_id id (Err reason) skip e = sym (ap (λ (s : Skipped). s.relation) (same_Some (record { relation = id; reason = reason }) skip e))

row_of_id : (relation : OsmRelation) (row : TurnRow) → row_of relation ≡ Some row → row.relation ≡ relation.id
row_of_id relation row e = by (is_restriction relation.tags) e
  where
    by : (b : Bool) → cond b (row_in (turn_of relation)) None ≡ Some row → row.relation ≡ relation.id
    by true e = row_id relation (turn_of relation) (says relation) row e
    by false e = absurd (cc)

skipped_of_id : (relation : OsmRelation) (skip : Skipped) → skipped_of relation ≡ Some skip → skip.relation ≡ relation.id
skipped_of_id relation skip e = by (is_restriction relation.tags) e
  where
    by : (b : Bool) → cond b (skipped_in relation.id (turn_of relation)) None ≡ Some skip → skip.relation ≡ relation.id
    by true e = skip_id relation.id (turn_of relation) skip e
    by false e = absurd (cc)

-- the relations' order is that of the rows and of the skips
pub rows_rise : (relations : List OsmRelation) → RelationsRise relations → RowsRise (filter_map row_of relations)
rows_rise relations h = given_rise (λ (r : OsmRelation). r.id) (λ (r : TurnRow). r.relation) row_of row_of_id relations h

pub skips_rise : (relations : List OsmRelation) → RelationsRise relations → SkipsRise (filter_map skipped_of relations)
skips_rise relations h = given_rise (λ (r : OsmRelation). r.id) (λ (s : Skipped). s.relation) skipped_of skipped_of_id relations h
