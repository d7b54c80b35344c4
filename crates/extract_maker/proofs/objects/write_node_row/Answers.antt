use Rattle.std.proofs.Common.{◌≡◌, ◌∙◌, sym}
use Rattle.std.proofs.lemmas.Result.{IfOk-equal}
use Rattle.extract_maker.proofs.Written.{nodes_written}
use Rattle.extract_maker.proofs.objects.write_node_row.Goals as goal

pub returns : goal.returns
returns c =
    IfOk-equal c.push_rising_field-3.result _ _ _ c.push_rising_field-3.ensures
    (rw (c.in_ok-push_rising_field-2.ensures, c.in_ok-push_rising_field.ensures, c.clear.ensures.items) (nodes_written c.args.side c.args.row))
