use Rattle.std.proofs.Common.{◌≡◌, sym, ap, subst, ◌∙◌}
use Rattle.std.specs.Prelude.{Some, None, OnOk, IfErr}
use Rattle.tile_numbers.specs.Limits.{first_fullness}
use Rattle.build_flow.specs.FolderFiles.{IsFault, lifted_of_roads, limit_of_roads}
use Rattle.build_flow.proofs.Roads.{full_passed, none_full}
use Rattle.build_flow.proofs.flow.files_of_roads.Goals as goal

pub returns-in-Some-clause-refused : goal.returns-in-Some-clause-refused
returns-in-Some-clause-refused c =
    let roads = c.args.roads.now in
    let first : first_fullness (lifted_of_roads c.args.modes roads.junctions roads.pieces) ≡ Some c.in-Some.full =
    ap first_fullness (sym (c.deref.ensures.value ∙ c.in-Ok.ensures.tiles)) ∙ (sym c.first_full.ensures.first ∙ c.in-Some.is) in
    rw c.from.ensures (full_passed c.args.modes roads.junctions roads.pieces c.in-Some.full c.in-Ok.ensures.accepted first)

pub returns-in-Ok-clause-accepted : goal.returns-in-Ok-clause-accepted
returns-in-Ok-clause-accepted c =
    let roads = c.args.roads.now in
    let first : first_fullness (lifted_of_roads c.args.modes roads.junctions roads.pieces) ≡ None =
    ap first_fullness (sym (c.deref.ensures.value ∙ c.in-Ok.ensures.tiles)) ∙ (sym c.first_full.ensures.first ∙ c.in-None.is) in
    rw (none_full c.args.modes roads.junctions roads.pieces c.in-Ok.ensures.accepted first, sym c.in-Ok.ensures.tiles, sym c.deref-in-None.ensures.value) c.files_of.ensures.short

pub returns-in-Ok-clause-refused : goal.returns-in-Ok-clause-refused
returns-in-Ok-clause-refused c =
    let roads = c.args.roads.now in
    let first : first_fullness (lifted_of_roads c.args.modes roads.junctions roads.pieces) ≡ None =
    ap first_fullness (sym (c.deref.ensures.value ∙ c.in-Ok.ensures.tiles)) ∙ (sym c.first_full.ensures.first ∙ c.in-None.is) in
    rw (none_full c.args.modes roads.junctions roads.pieces c.in-Ok.ensures.accepted first, sym c.in-Ok.ensures.tiles, sym c.deref-in-None.ensures.value) c.files_of.ensures.fault
