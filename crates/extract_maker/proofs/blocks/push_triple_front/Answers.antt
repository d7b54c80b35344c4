use Rattle.std.proofs.Common.{◌≡◌, ◌+◌, arith}
use Rattle.std.proofs.lemmas.Result.{IfOk-equal}
use Rattle.extract_maker.proofs.Written.{front_written}
use Rattle.extract_maker.proofs.blocks.push_triple_front.Goals as goal

pub returns : goal.returns
returns c =
    IfOk-equal c.push_front.result _ _ _ c.push_front.ensures
    (rw (c.in_ok-push_number.ensures, c.in_ok-push_bytes.ensures, c.in_ok-extend_from_slice.ensures.items, c.as_slice.ensures, c.to_be_bytes.ensures, c.as_bytes.ensures.value)
    (front_written c.args.file.now.items c.args.kind.now c.args.many c.field_len-size.result _ c.field_len-size.ensures.is
    (omega (arith, c.field_len.ensures.is, c.varint_len.ensures.is, c.varint_len-2.ensures.is))))
