use Rattle.std.proofs.Common.{sym, ◌∙◌}
use Rattle.section_grammar.proofs.Steps.{ok_is}
use Rattle.section_grammar.specs.Answers.{FailedCheck}
use Rattle.tile_bytes.proofs.RecordSections.{records_take, records_again}
use Rattle.tile_bytes.proofs.InfoSections.{infos_take, infos_again}
use Rattle.tile_bytes.proofs.TileLaws.{tile_takes, tile_again}
use Rattle.tile_bytes.proofs.laws.tile_law.Goals as goal

pub returns-clause-found : goal.returns-clause-found
returns-clause-found c =
    tile_takes c.entries_law.ensures.passes c.texts_law.ensures.passes (records_take c.nodes_law.ensures c.edges_law.ensures)
    (infos_take c.entries_law.ensures.found c.entries_law.ensures.spelled c.texts_law.ensures.found c.texts_law.ensures.spelled c.padding_law.ensures.found c.padding_law.ensures.spelled)

pub returns-clause-spelled : goal.returns-clause-spelled
returns-clause-spelled c =
    tile_again c.entries_law.ensures.bounded c.texts_law.ensures.bounded (records_again c.nodes_law.ensures c.edges_law.ensures)
    (infos_again c.entries_law.ensures.found c.entries_law.ensures.spelled c.texts_law.ensures.found c.texts_law.ensures.spelled c.padding_law.ensures.found c.padding_law.ensures.spelled)

pub returns-clause-one_spelling : goal.returns-clause-one_spelling
returns-clause-one_spelling c = λ a b tile p q. p.spelled ∙ sym q.spelled

pub returns-clause-one_tile : goal.returns-clause-one_tile
returns-clause-one_tile c =
    let again = tile_again c.entries_law.ensures.bounded c.texts_law.ensures.bounded (records_again c.nodes_law.ensures c.edges_law.ensures)
    (infos_again c.entries_law.ensures.found c.entries_law.ensures.spelled c.texts_law.ensures.found c.texts_law.ensures.spelled c.padding_law.ensures.found c.padding_law.ensures.spelled) in
    λ bytes a b p q. ok_is {F = FailedCheck} a b (sym (again bytes a p) ∙ again bytes b q)
