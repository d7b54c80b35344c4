use Rattle.std.proofs.Common.{◌≡◌, ◌∙◌, ◌==◌, ◌∷◌, [], ap, sym, refl, arith, Some, None}
use Rattle.std.specs.List.{slice_split}
use Rattle.command_words.specs.Values.{with_modes}
use Rattle.command_words.proofs.Commas.{unsplit, split, one_and_others}
use Rattle.command_words.proofs.values.+with_modes.Goals as goal

pub returns-in-None : goal.returns-in-None
returns-in-None t c =
    let whole = c.in-None.ensures.byte (omega arith) (λ w o h. h) in
    c.one_more.ensures ∙ ap (with_modes c.args.modes) (sym (unsplit c.args.text.now whole))

pub returns-in-None-one_more : goal.returns-in-None-one_more
returns-in-None-one_more t c =
    let parts = c.in-Some.ensures.byte (omega arith) (λ w o h. h) in
    let cut = split c.args.text.now c.in-Some.name.now c.in-Some.names.now parts.0 parts.1 parts.2 in
    one_and_others c.args.modes c.in-Some.name.now (slice_split (λ byte. byte == 44) c.in-Some.names.now) None c.in-None-one_more.ensures
    ∙ ap (with_modes c.args.modes) (sym cut)

pub returns-in-Some-one_more : goal.returns-in-Some-one_more
returns-in-Some-one_more t c =
    let parts = c.in-Some.ensures.byte (omega arith) (λ w o h. h) in
    let cut = split c.args.text.now c.in-Some.name.now c.in-Some.names.now parts.0 parts.1 parts.2 in
    c.with_modes.ensures
    ∙ (one_and_others c.args.modes c.in-Some.name.now (slice_split (λ byte. byte == 44) c.in-Some.names.now) (Some c.in-Some-one_more.all) c.in-Some-one_more.ensures
    ∙ ap (with_modes c.args.modes) (sym cut))
