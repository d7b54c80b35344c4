use Rattle.edge_info.proofs.EntryLaws.{entries_found, entries_again}
use Rattle.edge_info.proofs.Bounds.{infos_bounded, infos_pass}
use Rattle.edge_info.proofs.EntryFailing.{entries_fail, entries_fail_again}
use Rattle.edge_info.proofs.laws.entries_law.Goals as goal

pub returns-clause-found : goal.returns-clause-found
returns-clause-found c = λ end count section infos fits e. entries_found end count section infos fits e

pub returns-clause-spelled : goal.returns-clause-spelled
returns-clause-spelled c = λ end count infos good. entries_again end count infos good

pub returns-clause-bounded : goal.returns-clause-bounded
returns-clause-bounded c = λ count infos pass lt. infos_bounded count infos pass lt

pub returns-clause-passes : goal.returns-clause-passes
returns-clause-passes c = λ count infos good. infos_pass count infos good

pub returns-clause-fails : goal.returns-clause-fails
returns-clause-fails c = λ end count section failure fits e. entries_fail end count section failure fits e

pub returns-clause-first : goal.returns-clause-first
returns-clause-first c = λ end count section at fits f. entries_fail_again end count section at fits f
