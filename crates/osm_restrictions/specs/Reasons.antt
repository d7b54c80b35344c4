-- What a relation says of turns, in the words of the subject: a restriction is skipped for the first reason that
-- it has, or it has none and is one row.
use Rattle.std.specs.Prelude.{◌≡◌, ◌<ℤ◌, true, false, List, [], ◌∷◌, Some, None, codes, AllPairs}
use Rattle.osm_model.specs.declared.relations.OsmRelation.{OsmRelation}
use Rattle.osm_model.specs.declared.relations.MemberKind.TheVariants as kinds
use Rattle.osm_restrictions.specs.declared.rows.TurnRow.{TurnRow}
use Rattle.osm_restrictions.specs.declared.rows.Skipped.{Skipped}
use Rattle.osm_restrictions.specs.declared.rows.SkipReason.{SkipReason}
use Rattle.osm_restrictions.specs.declared.rows.SkipReason.TheVariants as skips
use Rattle.osm_restrictions.specs.Keys.{is_restriction, is_conditional}
use Rattle.osm_restrictions.specs.Kinds.{KindRow}
use Rattle.osm_restrictions.specs.Members.{ids_as, via_of}
use Rattle.osm_restrictions.specs.Exceptions.{restricted_modes}
use Rattle.osm_restrictions.specs.Turns.{kind_of, is_from_right, is_to_right}

-- a restriction has a reason to be skipped
abbrev pub HasReason : OsmRelation → SkipReason → Type 0
HasReason relation skips.Conditional = is_conditional relation.tags ≡ true
HasReason relation skips.UnknownKind = kind_of relation ≡ None
HasReason relation skips.NoModes = restricted_modes relation.tags ≡ 0
HasReason relation skips.WrongFrom = (kind : KindRow) × (kind_of relation ≡ Some kind) × (is_from_right relation kind ≡ false)
HasReason relation skips.WrongTo = (kind : KindRow) × (kind_of relation ≡ Some kind) × (is_to_right relation kind ≡ false)
HasReason relation skips.BadVia = via_of relation.members ≡ None
HasReason relation _ = ⊥

-- it has none of these
abbrev pub HasNoneOf : OsmRelation → List SkipReason → Type 0
HasNoneOf relation [] = Unit {0}
HasNoneOf relation (reason ∷ reasons) = (HasReason relation reason → ⊥) × HasNoneOf relation reasons

-- the reasons that a relation alone can have, in the order in which they are asked for, and those before one
abbrev pub own_reasons : List SkipReason
own_reasons = skips.Conditional ∷ skips.UnknownKind ∷ skips.NoModes ∷ skips.WrongFrom ∷ skips.WrongTo ∷ skips.BadVia ∷ []

abbrev pub reasons_before : SkipReason → List SkipReason
reasons_before skips.Conditional = []
reasons_before skips.UnknownKind = skips.Conditional ∷ []
reasons_before skips.NoModes = skips.Conditional ∷ skips.UnknownKind ∷ []
reasons_before skips.WrongFrom = skips.Conditional ∷ skips.UnknownKind ∷ skips.NoModes ∷ []
reasons_before skips.WrongTo = skips.Conditional ∷ skips.UnknownKind ∷ skips.NoModes ∷ skips.WrongFrom ∷ []
reasons_before skips.BadVia = skips.Conditional ∷ skips.UnknownKind ∷ skips.NoModes ∷ skips.WrongFrom ∷ skips.WrongTo ∷ []
reasons_before _ = own_reasons

-- a restriction is skipped for the first reason that it has
pub record IsSkippedFor (relation : OsmRelation) (reason : SkipReason) : Type 0 where
  pub has : HasReason relation reason
  pub first : HasNoneOf relation (reasons_before reason)

-- a restriction without a reason is this row: of its kind, of the ways in its roles, of the modes that are left
pub record IsTurn (relation : OsmRelation) (row : TurnRow) : Type 0 where
  pub kind : KindRow
  pub kind_is : kind_of relation ≡ Some kind
  pub unskipped : HasNoneOf relation own_reasons
  pub id : row.relation ≡ relation.id
  pub only : row.only ≡ kind.only
  pub u_turn : row.u_turn ≡ kind.u_turn
  pub from : row.from ≡ ids_as kinds.Way (codes "from") relation.members
  pub via : Some row.via ≡ via_of relation.members
  pub to : row.to ≡ ids_as kinds.Way (codes "to") relation.members
  pub modes : row.modes ≡ restricted_modes relation.tags

-- Relations, one after the other, with the rows and the skips that they tell: each restriction is one row or one
-- skip, and another relation is neither.
pub data Tell : List OsmRelation → List TurnRow → List Skipped → Type 0 where
  no_relation : Tell [] [] []
  no_restriction : (relation : OsmRelation) (relations : List OsmRelation) (rows : List TurnRow) (skipped : List Skipped) → is_restriction relation.tags ≡ false → Tell relations rows skipped → Tell (relation ∷ relations) rows skipped
  one_row : (relation : OsmRelation) (relations : List OsmRelation) (row : TurnRow) (rows : List TurnRow) (skipped : List Skipped) → is_restriction relation.tags ≡ true → IsTurn relation row → Tell relations rows skipped → Tell (relation ∷ relations) (row ∷ rows) skipped
  one_skip : (relation : OsmRelation) (relations : List OsmRelation) (reason : SkipReason) (rows : List TurnRow) (skipped : List Skipped) → is_restriction relation.tags ≡ true → IsSkippedFor relation reason → Tell relations rows skipped → Tell (relation ∷ relations) rows (record { relation = relation.id; reason = reason } ∷ skipped)

-- rows and skips are in order of the relation's id, each id once
abbrev pub RowsRise : List TurnRow → Type 0
RowsRise rows = AllPairs (λ a b. a.relation <ℤ b.relation) rows

abbrev pub SkipsRise : List Skipped → Type 0
SkipsRise skipped = AllPairs (λ a b. a.relation <ℤ b.relation) skipped
