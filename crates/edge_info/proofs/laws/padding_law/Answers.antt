use Rattle.edge_info.proofs.InfoLaws.{zeros, zeros_again}
use Rattle.edge_info.proofs.PaddingFailing.{padding_fail, padding_fail_again}
use Rattle.edge_info.proofs.laws.padding_law.Goals as goal

pub returns-clause-found : goal.returns-clause-found
returns-clause-found c = λ end bytes done e. zeros end bytes done e

pub returns-clause-spelled : goal.returns-clause-spelled
returns-clause-spelled c = λ end count. zeros_again end count

pub returns-clause-fails : goal.returns-clause-fails
returns-clause-fails c = λ end bytes failure e. padding_fail end bytes failure e

pub returns-clause-first : goal.returns-clause-first
returns-clause-first c = λ end bytes at f. padding_fail_again end bytes at f
