use Rattle.std.proofs.Common.{◌≡◌, ◌++◌, ◌∷◌, [], map, sym, ap, ◌∙◌, arith}
use Rattle.std.specs.Prelude.{flat_map}
use Rattle.std.specs.List.{range_with_len}
use Rattle.std.proofs.lemmas.Grind.{flat_map-append}
use Rattle.std.proofs.lemmas.List.{append-nil}
use Rattle.std.proofs.lemmas.List.FromFn.{map-range_with_len_more}
use Rattle.enhancer.specs.Density.{near_tile, tile_spots, near_spots}
use Rattle.enhancer.proofs.spots.read_near.Goals as goal

pub loop-k-preserved : goal.loop-k-preserved
loop-k-preserved g c = record {
  stays = g.met.S.Parts.stays_on c.args.parts.now c.loop-k.parts c.read_spots.new.parts c.loop-k.invariant.stays c.read_spots.ensures.stays;
  lost = omega (arith, c.loop-k.invariant.lost, c.read_spots.ensures.lost);
  spots = λ ps shown.
      let g1 = tile_spots c.args.places.now ps in
      let later = g.met.S.Parts.stays_shown c.args.parts.now c.loop-k.parts ps c.loop-k.invariant.stays shown in
      c.in_ok-read_spots.ensures.spots ps later
      ∙ ap (λ xs. xs ++ tile_spots c.args.places.now ps c.beside.result) (c.loop-k.invariant.spots ps shown)
      ∙ ap (λ t. flat_map g1 (map (near_tile c.args.tile) (range_with_len 0 c.loop-k.k)) ++ g1 t) c.beside.ensures
      ∙ ap (λ ys. flat_map g1 (map (near_tile c.args.tile) (range_with_len 0 c.loop-k.k)) ++ ys) (sym (append-nil (g1 (near_tile c.args.tile c.loop-k.k))))
      ∙ sym (flat_map-append g1 (map (near_tile c.args.tile) (range_with_len 0 c.loop-k.k)) (near_tile c.args.tile c.loop-k.k ∷ []))
      ∙ ap (flat_map g1) (sym (map-range_with_len_more (near_tile c.args.tile) 0 c.loop-k.k c.loop-k.k (omega arith)));
}

pub returns-clause-spots : goal.returns-clause-spots
unfolding near_spots
returns-clause-spots g c = λ ps shown.
    let all : c.loop-k.k ≡ 9 = omega (arith, c.loop-k-test.false) in
    c.loop-k.invariant.spots ps shown
    ∙ ap (λ k. flat_map (tile_spots c.args.places.now ps) (map (near_tile c.args.tile) (range_with_len 0 k))) all
