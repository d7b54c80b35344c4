use Rattle.std.proofs.Common.{◌≡◌, ◌∙◌, ◌++◌, ap, sym}
use Rattle.std.proofs.lemmas.List.{append-nil, append_assoc}
use Rattle.hierarchy.specs.Lifted.{tiles_of_level, lifted_tiles}
use Rattle.hierarchy.proofs.lifting.lift.Goals as goal

pub returns : goal.returns
unfolding lifted_tiles
returns c =
    let level = tiles_of_level c.args.tiles.items in
    let one : c.lift_level.new.lifted.items ≡ level 0 = c.in_ok-lift_level.ensures ∙ (ap (λ l. l ++ tiles_of_level c.deref.result.now 0) c.new-lifted.ensures.items ∙ ap (λ ts. tiles_of_level ts 0) c.deref.ensures.value) in
    let two : c.lift_level-2.new.lifted.items ≡ level 0 ++ level 1 = c.in_ok-lift_level-2.ensures ∙ (ap (λ l. l ++ tiles_of_level c.deref-2.result.now 1) one ∙ ap (λ ts. level 0 ++ tiles_of_level ts 1) c.deref-2.ensures.value) in
    let three : c.lift_level-3.new.lifted.items ≡ (level 0 ++ level 1) ++ level 2 = c.in_ok-lift_level-3.ensures ∙ (ap (λ l. l ++ tiles_of_level c.deref-3.result.now 2) two ∙ ap (λ ts. (level 0 ++ level 1) ++ tiles_of_level ts 2) c.deref-3.ensures.value) in
    three ∙ (append_assoc (level 0) (level 1) (level 2) ∙ ap (λ l. level 0 ++ (level 1 ++ l)) (sym (append-nil (level 2))))
