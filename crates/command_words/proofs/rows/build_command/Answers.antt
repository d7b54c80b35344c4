use Rattle.std.proofs.Common.{◌∙◌, ap₂}
use Rattle.std.proofs.lemmas.Result.{IfOk-weaker}
use Rattle.clap.specs.Simple.{with_rule}
use Rattle.command_words.proofs.rows.build_command.Goals as goal

pub returns : goal.returns
returns c =
    let one = c.in_ok-with_input.ensures ∙ ap₂ with_rule c.nameless-nameless.ensures c.required_option-input.ensures.rule in
    let two = c.in_ok-with_output.ensures ∙ ap₂ with_rule one c.required_option-output.ensures.rule in
    let three = c.in_ok-with_workers.ensures ∙ ap₂ with_rule two c.option_or-workers.ensures.rule in
    IfOk-weaker c.add-4.result _ _ (λ r h. h ∙ ap₂ with_rule three c.option_or-modes.ensures.rule) c.add-4.ensures
