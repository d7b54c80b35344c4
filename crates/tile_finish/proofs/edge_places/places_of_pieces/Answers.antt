use Rattle.std.proofs.Common.{◌∙◌, ap}
use Rattle.std.specs.Prelude.{nat_lt}
use Rattle.std.proofs.lemmas.List.Filters.{dedup_is}
use Rattle.std.proofs.lemmas.List.Kept.{Contains-dedup_nat, Contains-from_dedup}
use Rattle.std.proofs.lemmas.List.Sorted.{Contains-permutation, IsPermutation-sym}
use Rattle.std.proofs.lemmas.Map.Keys.{IsStrictlyIncreasing-dedup}
use Rattle.road_walks.specs.Orders.{rising}
use Rattle.tile_finish.proofs.PlaceLemmas.{is_rising}
use Rattle.tile_finish.proofs.edge_places.places_of_pieces.Goals as goal

pub returns : goal.returns
returns c =
    let is = dedup_is _ _ _ c.dedup.ensures.filtered in
    let moved = c.sort_unstable.ensures.permutation in
    is_rising c.dedup.new.self.items c.in_ok-places.places.items
    (rw is (IsStrictlyIncreasing-dedup _ c.sort_unstable.ensures.sorted))
    (λ x h. rw is (Contains-dedup_nat _ x (Contains-permutation _ _ x moved h)))
    (λ x h. Contains-permutation _ _ x (IsPermutation-sym _ _ moved) (Contains-from_dedup _ _ x (rw is at h)))
    ∙ ap (rising nat_lt) c.in_ok-places.ensures
