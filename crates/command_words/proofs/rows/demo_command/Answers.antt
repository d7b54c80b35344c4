use Rattle.std.proofs.Common.{◌∙◌, ap₂}
use Rattle.std.proofs.lemmas.Result.{IfOk-weaker}
use Rattle.clap.specs.Simple.{with_rule}
use Rattle.command_words.proofs.rows.demo_command.Goals as goal

pub returns : goal.returns
returns c =
    let one = c.in_ok-with_side.ensures ∙ ap₂ with_rule c.nameless-nameless.ensures c.required_place-side.ensures.rule in
    let two = c.in_ok-with_seed.ensures ∙ ap₂ with_rule one c.required_place-seed.ensures.rule in
    IfOk-weaker c.add-3.result _ _ (λ r h. h ∙ ap₂ with_rule two c.option_or-workers.ensures.rule) c.add-3.ensures
