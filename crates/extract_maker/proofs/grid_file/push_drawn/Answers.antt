use Rattle.std.proofs.Common.{◌≡◌, ℕ, ◌%◌, List, Option, ◌++◌, sym, ap, arith}
use Rattle.std.proofs.lemmas.Result.{IfOk-equal}
use Rattle.extract_maker.specs.GridFile.{turn_data}
use Rattle.extract_maker.proofs.GridContent.{left_kind, right_kind}
use Rattle.extract_maker.proofs.grid_file.push_drawn.Goals as goal

pub returns-in-1 : goal.returns-in-1
returns-in-1 c =
    let e : c.args.draw % 3 ≡ 1 = omega arith in
    IfOk-equal c.push_turn.result _ _ _ c.push_turn.ensures (ap (λ (k : Option (List ℕ)). c.args.file.now.items ++ turn_data c.args.side c.args.place k) (sym (left_kind c.args.draw e)))

pub returns-in_default : goal.returns-in_default
returns-in_default c =
    let e : c.args.draw % 3 ≡ 2 = omega arith in
    IfOk-equal c.push_turn-in_default.result _ _ _ c.push_turn-in_default.ensures (ap (λ (k : Option (List ℕ)). c.args.file.now.items ++ turn_data c.args.side c.args.place k) (sym (right_kind c.args.draw e)))
