use Rattle.command_words.proofs.KnownModes.{asked_known}
use Rattle.command_words.proofs.law.modes_are_known.Goals as goal

pub returns-clause-some : goal.returns-clause-some
returns-clause-some c = λ words options is. (asked_known words options is).1

pub returns-clause-known : goal.returns-clause-known
returns-clause-known c = λ words options is. (asked_known words options is).0
