use Rattle.std.proofs.Common.{◌∙◌, None, Some}
use Rattle.clap.specs.Matches.{found_of}
use Rattle.command_words.proofs.RowReads.{text_read}
use Rattle.command_words.proofs.ask.text_of.Goals as goal

pub returns-in-None : goal.returns-in-None
returns-in-None c = text_read (found_of c.args.matches.now) c.args.name.now None c.in-None.ensures

pub returns-in-Some : goal.returns-in-Some
returns-in-Some c = c.not_empty.ensures ∙ text_read (found_of c.args.matches.now) c.args.name.now (Some c.in-Some.text.now) c.in-Some.ensures
