use Rattle.wire_read.proofs.Grammar.{outcome_is_by_grammar, has_one_front}
use Rattle.wire_read.proofs.varint.varint_law.Goals as goal

pub returns-clause-by_grammar : goal.returns-clause-by_grammar
returns-clause-by_grammar c = outcome_is_by_grammar

pub returns-clause-one_front : goal.returns-clause-one_front
returns-clause-one_front c = has_one_front
