use Rattle.std.proofs.Common.{◌≡◌, ◌∙◌, sym}
use Rattle.std.proofs.lemmas.Result.{IfOk-equal}
use Rattle.extract_maker.proofs.Written.{header_written}
use Rattle.extract_maker.proofs.blocks.push_header.Goals as goal

pub returns : goal.returns
returns c =
    IfOk-equal c.push_bytes-2.result _ _ _ c.push_bytes-2.ensures
    (rw (c.in_ok-push_bytes.ensures, c.in_ok-push_triple_front.ensures, c.as_bytes.ensures.value, c.as_bytes-2.ensures.value) (header_written c.args.file.now.items))
