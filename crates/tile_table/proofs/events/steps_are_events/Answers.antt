use Rattle.tile_table.proofs.EventSteps.{events, begins}
use Rattle.tile_table.proofs.events.steps_are_events.Goals as goal

pub returns-clause-steps : goal.returns-clause-steps
returns-clause-steps g c s sh = events s sh

pub returns-clause-first : goal.returns-clause-first
returns-clause-first g c world goal workers some_workers = begins world goal workers some_workers
