-- What holds of a tile of a world that fits.
use Rattle.std.proofs.Common.{ℕ, ◌<◌, List, map, subst, All, arith}
use Rattle.std.proofs.Math.ListN.{get_or-map}
use Rattle.std.proofs.lemmas.List.{length-map}
use Rattle.tile_machine.specs.At.{At}
use Rattle.tile_machine.proofs.Bridges.{read_at, at-map}
use Rattle.work_tile.specs.WorkRows.{WorkRows}
use Rattle.enhancer.specs.ReadableRows.{plain_node, plain_rows}
use Rattle.enhancer.specs.Enhanced.{FitPlaces, StandsIn}

module _ (places : List ℕ) (world : List WorkRows) (fits : FitPlaces places (map plain_rows world)) (i : ℕ) (rows : WorkRows) (at : At world i rows) where
  pub tile_counted : rows.tile < 1_036_800
  tile_counted =
      let read = read_at (map plain_rows world) i (plain_rows rows) (at-map plain_rows world i rows at) in
      subst (λ (r : WorkRows). r.tile < 1_036_800) read.1 (fits.counted i (plain_rows rows) read.0)

  pub nodes_stand : All (StandsIn rows.tile) rows.nodes
  nodes_stand =
      let read = read_at (map plain_rows world) i (plain_rows rows) (at-map plain_rows world i rows at) in
      let all : All (StandsIn rows.tile) (map plain_node rows.nodes) = subst (λ (r : WorkRows). All (StandsIn r.tile) r.nodes) read.1 (fits.stand i (plain_rows rows) read.0) in
      λ k d inside. subst (StandsIn rows.tile) (get_or-map plain_node rows.nodes k d) (all k (plain_node d) (omega (arith, inside, length-map rows.nodes plain_node)))
