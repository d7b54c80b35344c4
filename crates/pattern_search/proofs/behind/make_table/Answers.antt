use Rattle.std.proofs.Common.{sym, ◌∙◌, ap, ◌++◌}
use Rattle.std.proofs.lemmas.List.{drop_all, append-nil}
use Rattle.pattern_search.specs.Most.{all_behind}
use Rattle.pattern_search.proofs.MostLaw.{table_begins}
use Rattle.pattern_search.proofs.behind.make_table.Goals as goal

pub returns : goal.returns
returns c =
    sym (append-nil c.loop-place.table.items)
    ∙ sym (ap (λ ps. c.loop-place.table.items ++ all_behind 34 c.loop-place.run c.loop-place.most ps) (drop_all c.loop-place.place-index c.args.places.now c.loop-place-test.false))
    ∙ c.loop-place.invariant
    ∙ table_begins 34 0 c.args.places.now
