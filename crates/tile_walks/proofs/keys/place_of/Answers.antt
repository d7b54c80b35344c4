use Rattle.std.proofs.lemmas.List.Sorted.{searched}
use Rattle.tile_walks.proofs.FoundKeys.{some_place, no_place, rises_weakly}
use Rattle.tile_walks.proofs.keys.place_of.Goals as goal

pub returns-clause-some : goal.returns-clause-some
returns-clause-some c = some_place c.args.keys.now c.args.key c.binary_search.result (searched c.args.keys.now c.args.key c.binary_search.result c.binary_search.ensures.position (rises_weakly c.args.keys.now c.requires)) c.ok.ensures.value

pub returns-clause-none : goal.returns-clause-none
returns-clause-none c = no_place c.args.keys.now c.args.key c.binary_search.result (searched c.args.keys.now c.args.key c.binary_search.result c.binary_search.ensures.position (rises_weakly c.args.keys.now c.requires)) c.ok.ensures.value
