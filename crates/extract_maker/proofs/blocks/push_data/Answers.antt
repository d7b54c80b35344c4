use Rattle.std.proofs.Common.{◌≡◌, ◌+◌, arith}
use Rattle.std.proofs.lemmas.Result.{IfOk-equal}
use Rattle.extract_maker.proofs.Written.{data_written}
use Rattle.extract_maker.proofs.blocks.push_data.Goals as goal

pub returns : goal.returns
returns c =
    IfOk-equal c.push_bytes-2.result _ _ _ c.push_bytes-2.ensures
    (rw (c.in_ok-push_front.ensures, c.in_ok-push_bytes.ensures, c.in_ok-push_triple_front.ensures)
    (data_written c.args.file.now.items c.args.table.now c.args.field c.args.object.now (c.field_len.result + c.field_len-2.result) c.field_len-group.result
    c.field_len-group.ensures.is (omega (arith, c.field_len.ensures.is, c.field_len-2.ensures.is))))
