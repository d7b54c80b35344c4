use Rattle.std.proofs.Common.{◌∙◌, ap, codes}
use Rattle.std.proofs.lemmas.Result.{on_ok_weaker}
use Rattle.std.specs.Prelude.{get_or}
use Rattle.build_report.specs.Reports.{with_reason}
use Rattle.build_report.proofs.text.put_first_reasons.Goals as goal

pub returns-clause-ok : goal.returns-clause-ok
returns-clause-ok c =
    let one = c.in_ok-put_reason.ensures.ok ∙ ap (with_reason (codes "conditional") (get_or c.args.counts.now 0 0)) c.requires in
    let two = c.in_ok-put_reason-2.ensures.ok ∙ ap (with_reason (codes "unknown_kind") (get_or c.args.counts.now 1 0)) one in
    let three = c.in_ok-put_reason-3.ensures.ok ∙ ap (with_reason (codes "no_modes") (get_or c.args.counts.now 2 0)) two in
    let four = c.in_ok-put_reason-4.ensures.ok ∙ ap (with_reason (codes "wrong_from") (get_or c.args.counts.now 3 0)) three in
    on_ok_weaker c.put_reason-5.result (λ e. e ∙ ap (with_reason (codes "wrong_to") (get_or c.args.counts.now 4 0)) four) c.put_reason-5.ensures.ok
