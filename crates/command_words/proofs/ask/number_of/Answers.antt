use Rattle.std.proofs.Common.{◌∙◌, None, Some}
use Rattle.clap.specs.Matches.{found_of}
use Rattle.command_words.proofs.RowReads.{number_read}
use Rattle.command_words.proofs.ask.number_of.Goals as goal

pub returns-in-None : goal.returns-in-None
returns-in-None c = number_read (found_of c.args.matches.now) c.args.name.now c.args.low c.args.high None c.in-None.ensures

pub returns-in-Some : goal.returns-in-Some
returns-in-Some c = c.number_within.ensures ∙ number_read (found_of c.args.matches.now) c.args.name.now c.args.low c.args.high (Some c.in-Some.text.now) c.in-Some.ensures
