use Rattle.std.proofs.Common.{◌≡◌, ◌∙◌, sym, pos, ◌∷◌, []}
use Rattle.std.proofs.lemmas.Result.{IfOk-equal}
use Rattle.extract_maker.specs.Grid.{row_way_id, grid_node_id, column_way_id, turn_id}
use Rattle.extract_maker.proofs.Written.{turn_written}
use Rattle.extract_maker.proofs.objects.write_turn.Goals as goal

pub returns : goal.returns
returns c =
    IfOk-equal c.push_turn_members.result _ _ _ c.push_turn_members.ensures
    (rw (c.in_ok-push_turn_texts.ensures, c.in_ok-push_number.ensures, c.clear.ensures.items)
    (turn_written (turn_id c.args.place) (pos (row_way_id c.args.place) ∷ pos (grid_node_id c.args.side c.args.place c.args.place) ∷ pos (column_way_id c.args.place) ∷ [])))
