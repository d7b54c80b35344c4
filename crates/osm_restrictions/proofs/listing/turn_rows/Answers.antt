use Rattle.std.proofs.Common.{◌≡◌, ◌<◌, ◌++◌, ap, ◌∙◌, sym, subst, length, take, arith, List}
use Rattle.std.proofs.lemmas.List.{take_all}
use Rattle.std.specs.Prelude.{filter_map, option_to_list}
use Rattle.osm_model.specs.declared.relations.OsmRelation.{OsmRelation}
use Rattle.osm_restrictions.specs.declared.rows.TurnRow.{TurnRow}
use Rattle.osm_restrictions.specs.declared.rows.Skipped.{Skipped}
use Rattle.osm_restrictions.specs.Rows.{row_of, skipped_of}
use Rattle.osm_restrictions.proofs.Listed.{filter_map_more}
use Rattle.osm_restrictions.proofs.Told.{told, rows_rise, skips_rise}
use Rattle.osm_restrictions.specs.Reasons.{Tell, RowsRise, SkipsRise}
use Rattle.osm_restrictions.proofs.listing.turn_rows.Goals as goal

pub loop-i-preserved : goal.loop-i-preserved
loop-i-preserved c =
    let inside : c.loop-i.i < length c.args.extract.now.relations = omega arith in
    record {
      rows =
          c.in_ok-add_turn.ensures.rows
          ∙ ap (λ (l : List TurnRow). l ++ option_to_list (row_of c.at.result)) c.loop-i.invariant.rows
          ∙ ap (λ (r : OsmRelation). filter_map row_of (take c.loop-i.i c.args.extract.now.relations) ++ option_to_list (row_of r)) c.at.ensures
          ∙ sym (filter_map_more row_of c.args.extract.now.relations c.loop-i.i c.at.result inside);
      skipped =
          c.in_ok-add_turn.ensures.skipped
          ∙ ap (λ (l : List Skipped). l ++ option_to_list (skipped_of c.at.result)) c.loop-i.invariant.skipped
          ∙ ap (λ (r : OsmRelation). filter_map skipped_of (take c.loop-i.i c.args.extract.now.relations) ++ option_to_list (skipped_of r)) c.at.ensures
          ∙ sym (filter_map_more skipped_of c.args.extract.now.relations c.loop-i.i c.at.result inside);
    }

pub returns-clause-told : goal.returns-clause-told
returns-clause-told c =
    let all_rows : c.loop-i.turns.rows ≡ filter_map row_of c.args.extract.now.relations =
    c.loop-i.invariant.rows ∙ ap (filter_map row_of) (take_all c.loop-i.i c.args.extract.now.relations (omega arith)) in
    let all_skips : c.loop-i.turns.skipped ≡ filter_map skipped_of c.args.extract.now.relations =
    c.loop-i.invariant.skipped ∙ ap (filter_map skipped_of) (take_all c.loop-i.i c.args.extract.now.relations (omega arith)) in
    subst (λ rows. Tell c.args.extract.now.relations rows c.loop-i.turns.skipped) (sym all_rows)
    (subst (λ skips. Tell c.args.extract.now.relations (filter_map row_of c.args.extract.now.relations) skips) (sym all_skips) (told c.args.extract.now.relations))

pub returns-clause-rows_rise : goal.returns-clause-rows_rise
returns-clause-rows_rise c =
    let all_rows : c.loop-i.turns.rows ≡ filter_map row_of c.args.extract.now.relations =
    c.loop-i.invariant.rows ∙ ap (filter_map row_of) (take_all c.loop-i.i c.args.extract.now.relations (omega arith)) in
    subst RowsRise (sym all_rows) (rows_rise c.args.extract.now.relations c.args.extract.now.relations_rise)

pub returns-clause-skips_rise : goal.returns-clause-skips_rise
returns-clause-skips_rise c =
    let all_skips : c.loop-i.turns.skipped ≡ filter_map skipped_of c.args.extract.now.relations =
    c.loop-i.invariant.skipped ∙ ap (filter_map skipped_of) (take_all c.loop-i.i c.args.extract.now.relations (omega arith)) in
    subst SkipsRise (sym all_skips) (skips_rise c.args.extract.now.relations c.args.extract.now.relations_rise)
