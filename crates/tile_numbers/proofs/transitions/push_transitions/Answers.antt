use Rattle.std.proofs.Common.{◌≡◌, ◌∙◌, ◌++◌, List, [], ℕ, sym, ap}
use Rattle.std.specs.Prelude.{Result, Ok, Err, OnOk}
use Rattle.std.proofs.lemmas.List.{append_assoc, append-nil}
use Rattle.tile_numbers.specs.LookUps.{node_on_other, other_nodes}
use Rattle.tile_numbers.proofs.transitions.push_transitions.Goals as goal

joined : (old first second third ks ls ms : List ℕ) → first ≡ old ++ ks → second ≡ first ++ ls → third ≡ second ++ ms → third ≡ old ++ (ks ++ (ls ++ (ms ++ [])))
joined old first second third ks ls ms a b c =
    c ∙ ap (λ l. l ++ ms) (b ∙ ap (λ l. l ++ ls) a)
    ∙ append_assoc (old ++ ks) ls ms ∙ append_assoc old ks (ls ++ ms) ∙ ap (λ l. old ++ (ks ++ (ls ++ l))) (sym (append-nil ms))

on_ok : {T E : Type 0} {P Q : Type 0} (r : Result T E) → (P → Q) → OnOk r P → OnOk r Q
on_ok (Ok v) f p = f p
on_ok (Err e) f p = tt

pub returns : goal.returns
unfolding other_nodes
returns c =
    let other = node_on_other c.args.tiles.now c.args.level c.args.node.now in
    on_ok c.push_other-3.result
    (λ third. joined c.args.ids.now.items c.push_other.new.ids.items c.push_other-2.new.ids.items c.push_other-3.new.ids.items (other 0) (other 1) (other 2) c.in_ok-push_other.ensures c.in_ok-push_other-2.ensures third)
    c.push_other-3.ensures
