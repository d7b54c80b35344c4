use Rattle.phase_run.specs.Inner.Rest.{ByFlags}
use Rattle.phase_run.proofs.Finishing.{AllBefore}
use Rattle.phase_run.proofs.rest.finish_rest.Given as goal

abbrev pub invariant-loop-i : goal.invariant-loop-i
invariant-loop-i g l =
    record {
      by : ByFlags l.fn.world.value.items (g.P.Phase.finished l.phase l.fn.world.value.items) l.tiles.items l.done.items;
      before : AllBefore l.done.items l.i;
    }
