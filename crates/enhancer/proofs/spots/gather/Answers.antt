use Rattle.std.proofs.Common.{◌≡◌, sym, subst, All, List}
use Rattle.std.proofs.lemmas.List.Sorted.{All-permutation}
use Rattle.enhancer.specs.declared.spots.Spot.{Spot}
use Rattle.enhancer.specs.Cells.{geo_cell}
use Rattle.enhancer.proofs.SpotLists.{spots_in_cells}
use Rattle.enhancer.proofs.spots.gather.Goals as goal

pub returns-clause-cells : goal.returns-clause-cells
returns-clause-cells g c = record {
  cells =
      All-permutation (λ (s : Spot). s.cell ≡ geo_cell s.at) _ _ c.put_in_order.ensures.permutation
      (subst (λ (ss : List Spot). All (λ (s : Spot). s.cell ≡ geo_cell s.at) ss) (sym (c.in_ok-spots.ensures.spots c.requires.shown.0 c.requires.shown.1))
      (spots_in_cells c.args.places.now c.requires.shown.0 c.args.tile));
  order = c.put_in_order.ensures.order;
}
