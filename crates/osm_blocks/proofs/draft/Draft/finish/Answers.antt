use Rattle.std.proofs.Common.{◌≡◌, Bool, true, false, not, None, sym, ap, ◌∙◌, subst, inr, refl}
use Rattle.std.proofs.lemmas.List.Sorted.{All-permutation}
use Rattle.osm_model.specs.OsmNode.{IsPlaced}
use Rattle.osm_objects.specs.Seen.{seen_objects}
use Rattle.osm_blocks.specs.Counts.{counts_of, first_past}
use Rattle.osm_blocks.specs.Extracts.{IsFinished}
use Rattle.osm_blocks.specs.Steps.{AreInOrder, seen}
use Rattle.osm_blocks.proofs.Limits.{counts_same, in_order_distinct}
use Rattle.osm_blocks.proofs.draft.Draft.finish.Goals as goal

headed : (b : Bool) → not b ≡ false → b ≡ true
headed true e = refl
headed false e = absurd cc

pub returns-in-Some-clause-end : goal.returns-in-Some-clause-end
returns-in-Some-clause-end c =
    let old = seen_objects c.args.self.lists in
    let new = seen_objects c.order_all.new.lists in
    let order : AreInOrder old new = rw c.in-Ok-None.field-0-is at c.in-Ok-None.ensures in
    inr (inr (record {
      headed = headed c.args.self.headed c.if-not-self.false;
      distinct = in_order_distinct old new order;
      what = c.in-Some.what;
      count = c.in-Some.count;
      past = ap first_past (sym (counts_same old new order)) ∙ ap first_past (sym c.count-counts.ensures) ∙ sym c.first_past.ensures ∙ c.in-Some.is;
      is = refl;
    }))

pub extract_of-requires-clause-placed : goal.extract_of-requires-clause-placed
extract_of-requires-clause-placed c =
    let order : AreInOrder (seen_objects c.args.self.lists) (seen_objects c.order_all.new.lists) = rw c.in-Ok-None.field-0-is at c.in-Ok-None.ensures in
    All-permutation IsPlaced c.args.self.lists.nodes c.order_all.new.lists.nodes order.nodes.same c.requires

pub returns-clause-end : goal.returns-clause-end
returns-clause-end c =
    let old = seen_objects c.args.self.lists in
    let new = seen_objects c.order_all.new.lists in
    let order : AreInOrder old new = rw c.in-Ok-None.field-0-is at c.in-Ok-None.ensures in
    let within : first_past (counts_of old) ≡ None =
    ap first_past (sym (counts_same old new order)) ∙ ap first_past (sym c.count-counts.ensures) ∙ sym c.first_past.ensures ∙ c.in_default.is in
    let finished : IsFinished (seen c.args.self) new =
    record { headed = headed c.args.self.headed c.if-not-self.false; nodes = order.nodes; ways = order.ways; relations = order.relations; within = within } in
    subst (IsFinished (seen c.args.self)) (sym c.extract_of.ensures) finished
