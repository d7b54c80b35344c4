use Rattle.std.proofs.Common.{◌≡◌, ◌<◌, ◌++◌, [], ap, sym, ◌∙◌, length, arith}
use Rattle.std.specs.Prelude.{count_by, not}
use Rattle.road_pieces.specs.Rules.{is_routable}
use Rattle.road_pieces.specs.Runs.{has_node}
use Rattle.road_pieces.specs.Lines.{lines_from}
use Rattle.road_pieces.proofs.SurveyLemmas.{with_way, without_way, few_missing}
use Rattle.road_pieces.proofs.survey.find_lines.Goals as goal
use Rattle.road_pieces.proofs.survey.find_lines.Goals.{then-is_routable+in_ok-missing, else-is_routable}

pub loop-place-preserved : goal.loop-place-preserved
loop-place-preserved c =
    let x = c.args.extract.now in
    let place = c.loop-place.place in
    let way = c.at-way.result in
    let is = c.at-way.ensures in
    let inside : place < length x.ways = omega arith in
    let routable : is_routable way.tags ≡ c.is_routable.result = ap is_routable (sym c.tags.ensures) ∙ sym c.is_routable.ensures in
    elim c.if-is_routable.branch [
      | then-is_routable+in_ok-missing w ↦
          let done : w.add_way.new.lines.done ≡ c.loop-place.lines.done ++ lines_from x.nodes place 0 [] way.refs =
          w.in_ok-missing.ensures.done ∙ ap (λ r. c.loop-place.lines.done ++ lines_from x.nodes place 0 [] r) w.refs.ensures in
          let counted : w.in_ok-missing.field-0 ≡ count_by (λ id. not (has_node x.nodes id)) way.refs =
          w.in_ok-missing.ensures.missing ∙ ap (λ r. count_by (λ id. not (has_node x.nodes id)) r) w.refs.ensures in
          rw (w.lines-is, w.routable-is, w.missing-is)
          (with_way x c.loop-place.lines w.add_way.new.lines c.loop-place.routable c.loop-place.missing w.in_ok-missing.field-0 place way inside is c.loop-place.invariant (routable ∙ w.if-is_routable.true) done w.in_ok-missing.ensures.begun counted (few_missing x place w.in_ok-missing.field-0 way inside is counted))
      | else-is_routable w ↦
          rw (w.lines-is, w.routable-is, w.missing-is)
          (without_way x c.loop-place.lines c.loop-place.routable c.loop-place.missing place way inside is c.loop-place.invariant (routable ∙ w.if-is_routable.false))
    ]
