use Rattle.tile_machine.proofs.Carried.{carries_values}
use Rattle.tile_machine.proofs.values.values_follow_marks.Goals as goal

pub returns : goal.returns
returns g c phase world workers events fits =
    carries_values (g.P.Phase.readable phase) world (g.P.Phase.finished phase world)
    (g.met.P.Phase.as_many phase world fits) (g.met.P.Phase.same_parts phase world fits) workers events
