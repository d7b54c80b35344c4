use Rattle.std.proofs.Common.{◌∙◌, sym}
use Rattle.tile_numbers.proofs.RecordLists.{no_edges_yet}
use Rattle.tile_numbers.proofs.numbering.numbered.Goals as goal

pub loop-k-init : goal.loop-k-init
loop-k-init c = record {
  nodes_are = c.in_ok-with_capacity.ensures.items;
  edges_are = c.in_ok-with_capacity-2.ensures.items ∙ sym (no_edges_yet c.args.tiles.now c.args.rows.now.level c.args.rows.now.tile _);
  transitions_are = c.new.ensures.items;
}
