use Rattle.edge_info.proofs.TextLaws.{texts_found, texts_again}
use Rattle.edge_info.proofs.Bounds.{texts_bounded, texts_pass}
use Rattle.edge_info.proofs.TextFailing.{texts_fail, texts_fail_again}
use Rattle.edge_info.proofs.laws.texts_law.Goals as goal

pub returns-clause-found : goal.returns-clause-found
returns-clause-found c = λ end names count section texts fits e. texts_found end names count section texts fits e

pub returns-clause-spelled : goal.returns-clause-spelled
returns-clause-spelled c = λ end names texts are. texts_again end names texts are

pub returns-clause-bounded : goal.returns-clause-bounded
returns-clause-bounded c = λ names texts pass lt. texts_bounded names texts pass lt

pub returns-clause-passes : goal.returns-clause-passes
returns-clause-passes c = λ names texts are. texts_pass names texts are

pub returns-clause-fails : goal.returns-clause-fails
returns-clause-fails c = λ end names count section failure fits e. texts_fail end names count section failure fits e

pub returns-clause-first : goal.returns-clause-first
returns-clause-first c = λ end names count section at fits f. texts_fail_again end names count section at fits f
