-- A restriction whose kind is known.
use Rattle.std.proofs.Common.{◌≡◌, ℕ, false, refl, sym, subst, ap, ◌∙◌, List}
use Rattle.std.specs.Prelude.{Option, Some, None, Result, Err, IfOk, option_map, option_and_then}
use Rattle.std.proofs.lemmas.Option.{same_Some}
use Rattle.std.proofs.lemmas.Bool.{cond-false}
use Rattle.osm_model.specs.declared.relations.OsmRelation.{OsmRelation}
use Rattle.osm_restrictions.specs.declared.kinds.TurnKind.{TurnKind}
use Rattle.osm_restrictions.specs.declared.rows.TurnRow.{TurnRow}
use Rattle.osm_restrictions.specs.declared.rows.SkipReason.{SkipReason}
use Rattle.osm_restrictions.specs.declared.rows.SkipReason.TheVariants as skips
use Rattle.osm_restrictions.specs.Keys.{deciding_value, is_conditional}
use Rattle.osm_restrictions.specs.Kinds.{KindRow, turn_kind}
use Rattle.osm_restrictions.specs.Turns.{turn_of, of_kind}

-- the kind of a row of the table
abbrev pub kind_in : KindRow → TurnKind
kind_in row = record { only = row.only; u_turn = row.u_turn; many_from = row.many_from; many_to = row.many_to }

pub turn_of_known : {E : Type 0} (relation : OsmRelation) (value : List ℕ) (kind : TurnKind) (result : Result (Result TurnRow SkipReason) E) → is_conditional relation.tags ≡ false → Some value ≡ deciding_value relation.tags → Some kind ≡ option_map kind_in (turn_kind value) → ((row : KindRow) → kind ≡ kind_in row → IfOk result (λ turn. turn ≡ of_kind relation (Some row))) → IfOk result (λ turn. turn ≡ turn_of relation)
turn_of_known {E = E} relation value kind result plain decides known told = by (turn_kind value) refl known
  where
    by : (row : Option KindRow) → turn_kind value ≡ row → Some kind ≡ option_map kind_in row → IfOk result (λ turn. turn ≡ turn_of relation)
    by None at e = absurd (cc)
    by (Some row) at e =
        let is : of_kind relation (Some row) ≡ turn_of relation =
        sym (cond-false (is_conditional relation.tags) (Err skips.Conditional) (of_kind relation (option_and_then turn_kind (deciding_value relation.tags))) plain
        ∙ ap (λ v. of_kind relation (option_and_then turn_kind v)) (sym decides) ∙ ap (of_kind relation) at) in
        subst (λ x. IfOk result (λ turn. turn ≡ x)) is (told row (same_Some kind (kind_in row) e))
