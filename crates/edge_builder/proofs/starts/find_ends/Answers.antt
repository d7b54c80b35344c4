use Rattle.std.proofs.Common.{◌∙◌, ap, rules, w64, FitsSigned}
use Rattle.std.proofs.lemmas.Int.{to_z-of_z}
use Rattle.edge_builder.specs.BaseRows.{junction_place}
use Rattle.edge_builder.proofs.starts.find_ends.Goals as goal

pub find_junction-start-requires-clause-there : goal.find_junction-start-requires-clause-there
find_junction-start-requires-clause-there c =
    let fits : FitsSigned w64 c.start-start_id.result = search rules in
    rw (to_z-of_z w64 c.start-start_id.result fits, c.start-start_id.ensures) c.requires.joined.start

pub find_junction-end-requires-clause-there : goal.find_junction-end-requires-clause-there
find_junction-end-requires-clause-there c =
    let fits : FitsSigned w64 c.end-end_id.result = search rules in
    rw (to_z-of_z w64 c.end-end_id.result fits, c.end-end_id.ensures) c.requires.joined.end

pub returns-clause-start : goal.returns-clause-start
returns-clause-start c =
    let fits : FitsSigned w64 c.start-start_id.result = search rules in
    c.find_junction-start.ensures.place ∙ ap (junction_place c.args.junctions.now) (to_z-of_z w64 c.start-start_id.result fits ∙ c.start-start_id.ensures)

pub returns-clause-end : goal.returns-clause-end
returns-clause-end c =
    let fits : FitsSigned w64 c.end-end_id.result = search rules in
    c.find_junction-end.ensures.place ∙ ap (junction_place c.args.junctions.now) (to_z-of_z w64 c.end-end_id.result fits ∙ c.end-end_id.ensures)
