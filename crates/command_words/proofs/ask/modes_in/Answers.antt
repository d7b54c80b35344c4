use Rattle.std.proofs.Common.{◌∙◌, None, Some}
use Rattle.clap.specs.Matches.{found_of}
use Rattle.command_words.proofs.RowReads.{modes_read}
use Rattle.command_words.proofs.ask.modes_in.Goals as goal

pub returns-in-None : goal.returns-in-None
returns-in-None c = modes_read (found_of c.args.matches.now) None c.in-None.ensures

pub returns-in-Some : goal.returns-in-Some
returns-in-Some c = c.modes_of.ensures ∙ modes_read (found_of c.args.matches.now) (Some c.in-Some.text.now) c.in-Some.ensures
