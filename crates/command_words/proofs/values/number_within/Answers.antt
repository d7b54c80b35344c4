use Rattle.std.proofs.Common.{◌∙◌, ap, sym}
use Rattle.command_words.specs.Values.{is_plain_number}
use Rattle.command_words.proofs.Digits.{too_large}
use Rattle.command_words.proofs.values.number_within.Goals as goal

pub returns-in-Err : goal.returns-in-Err
returns-in-Err c =
    let plain = ap is_plain_number (sym c.as_bytes.ensures.value) ∙ (sym c.is_plain_number.ensures ∙ c.if-not-is_plain_number.false) in
    too_large c.args.low c.args.high c.args.text.now plain c.ranges.high.fits c.in-Err.ensures.value.0
