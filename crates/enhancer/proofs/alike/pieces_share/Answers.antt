use Rattle.std.proofs.Common.{sym, ap, ◌∙◌, arith}
use Rattle.enhancer.specs.NamesInCommon.{names_of_piece, share_name}
use Rattle.enhancer.proofs.Shares.{first_past, second_past, names_are}
use Rattle.enhancer.proofs.alike.pieces_share.Goals as goal
use Rattle.enhancer.proofs.alike.pieces_share.Goals.{then-a-len-via-then-a-len, then-a-len-via-else-a-len+then-b-len}

pub returns-then-a-len : goal.returns-then-a-len
returns-then-a-len c = elim c.then-a-len.branch [
  | then-a-len-via-then-a-len w ↦ first_past c.args.pieces.now c.args.a c.args.b (omega (arith, w.if-a-len.true, c.len.ensures))
  | then-a-len-via-else-a-len+then-b-len w ↦ second_past c.args.pieces.now c.args.a c.args.b (omega (arith, w.if-b-len.true, w.len-else-a-len.ensures))
]

pub returns : goal.returns
returns c =
    let first = names_are c.args.pieces.now c.args.a c.at-first.result (omega (arith, c.if-a-len.false, c.len.ensures)) c.at-first.ensures in
    let second = names_are c.args.pieces.now c.args.b c.at-second.result (omega (arith, c.if-b-len.false, c.len-else-a-len.ensures)) c.at-second.ensures in
    c.share.ensures
    ∙ ap (λ ns. share_name ns c.names-2.result.now) (c.names.ensures ∙ sym first)
    ∙ ap (share_name (names_of_piece c.args.pieces.now c.args.a)) (c.names-2.ensures ∙ sym second)
