use Rattle.std.proofs.Common.{◌≡◌, ◌∙◌, sym, codes}
use Rattle.std.proofs.lemmas.Result.{IfOk-equal}
use Rattle.extract_maker.proofs.Written.{turn_table_is}
use Rattle.extract_maker.proofs.tables.write_turn_table.Goals as goal

pub returns : goal.returns
returns c =
    IfOk-equal c.push_bytes-6.result _ _ _ c.push_bytes-6.ensures
    (rw (c.in_ok-push_bytes-5.ensures, c.in_ok-push_bytes-4.ensures, c.in_ok-push_bytes-3.ensures, c.in_ok-push_bytes-2.ensures, c.in_ok-push_bytes.ensures, c.in_ok-write_empty_table.ensures, c.as_bytes.ensures.value, c.as_bytes-2.ensures.value, c.as_bytes-3.ensures.value, c.as_bytes-4.ensures.value, c.as_bytes-5.ensures.value, c.as_bytes-6.ensures.value)
    (turn_table_is (codes "type") (codes "restriction") c.args.kind.now (codes "from") (codes "via") (codes "to")))
