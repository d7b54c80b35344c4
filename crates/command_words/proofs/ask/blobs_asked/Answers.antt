use Rattle.std.proofs.Common.{◌∙◌, ap}
use Rattle.std.specs.Prelude.{option_and_then, map}
use Rattle.std.specs.String.{string_bytes}
use Rattle.std.proofs.lemmas.Result.{IfOk-weaker}
use Rattle.clap.specs.Faults.{is_simple_and_free}
use Rattle.clap.specs.Simple.{App}
use Rattle.command_words.specs.Rows.{parsed_by}
use Rattle.command_words.specs.Asks.{blobs_of}
use Rattle.command_words.proofs.RowReads.{blobs_is_simple}
use Rattle.command_words.proofs.ask.blobs_asked.Goals as goal

pub parse-requires : goal.parse-requires
parse-requires c = ap is_simple_and_free c.in_ok-command.ensures ∙ blobs_is_simple

pub returns : goal.returns
returns c =
    let rows = c.in_ok-matches.ensures ∙ ap (λ (app : App). parsed_by app (map string_bytes c.args.words.now)) c.in_ok-command.ensures in
    IfOk-weaker c.blobs_found.result _ _ (λ r h. h ∙ ap (option_and_then blobs_of) rows) c.blobs_found.ensures
