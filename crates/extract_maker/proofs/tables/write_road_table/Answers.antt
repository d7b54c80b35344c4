use Rattle.std.proofs.Common.{◌≡◌, ◌∙◌, sym, codes}
use Rattle.std.proofs.lemmas.Result.{IfOk-equal}
use Rattle.extract_maker.proofs.Written.{road_table_is}
use Rattle.extract_maker.proofs.tables.write_road_table.Goals as goal

pub returns : goal.returns
returns c =
    IfOk-equal c.push_bytes-4.result _ _ _ c.push_bytes-4.ensures
    (rw (c.in_ok-push_bytes-3.ensures, c.in_ok-push_bytes-2.ensures, c.in_ok-push_bytes.ensures, c.in_ok-write_empty_table.ensures, c.as_bytes.ensures.value, c.as_bytes-2.ensures.value, c.as_bytes-3.ensures.value, c.as_bytes-4.ensures.value)
    (road_table_is (codes "highway") c.args.class.now (codes "name") c.args.name.now))
