use Rattle.std.proofs.lemmas.List.Sorted.{searched}
use Rattle.work_tile.proofs.Found.{some_place, no_place, rises_weakly}
use Rattle.work_tile.proofs.places.find.Goals as goal

pub returns-clause-some : goal.returns-clause-some
returns-clause-some c = some_place c.args.numbers.now c.args.number c.binary_search.result (searched c.args.numbers.now c.args.number c.binary_search.result c.binary_search.ensures.position (rises_weakly c.args.numbers.now c.requires)) c.ok.ensures.value

pub returns-clause-none : goal.returns-clause-none
returns-clause-none c = no_place c.args.numbers.now c.args.number c.binary_search.result (searched c.args.numbers.now c.args.number c.binary_search.result c.binary_search.ensures.position (rises_weakly c.args.numbers.now c.requires)) c.ok.ensures.value
