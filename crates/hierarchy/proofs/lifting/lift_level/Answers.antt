use Rattle.std.proofs.Common.{rules, ◌≡◌, ◌∙◌, ◌++◌, ap, sym, subst, map}
use Rattle.std.specs.Prelude.{All, AllPairs, OnOk}
use Rattle.std.proofs.lemmas.List.Sorted.{answers_always, All-permutation}
use Rattle.hierarchy.specs.Spots.{IsSpot, TilesRise, placed_of, tiles_of_nodes}
use Rattle.hierarchy.proofs.LevelLemmas.{IsNotAfter, level_told}
use Rattle.hierarchy.proofs.SortedSpots.{pairs_from, tiles_rise}
use Rattle.hierarchy.proofs.lifting.lift_level.Goals as goal

pub push_tiles-requires-clause-there : goal.push_tiles-requires-clause-there
push_tiles-requires-clause-there c =
    subst (All (IsSpot c.args.tiles.now)) (sym c.deref.ensures.value) (All-permutation (IsSpot c.args.tiles.now) c.in_ok-spots.spots.items c.sort_unstable_by_key.new.self.items c.sort_unstable_by_key.ensures.permutation c.in_ok-spots.ensures.there)

pub push_tiles-requires-clause-rise : goal.push_tiles-requires-clause-rise
push_tiles-requires-clause-rise c =
    let pairs : AllPairs IsNotAfter c.sort_unstable_by_key.new.self.items = pairs_from c.sort_unstable_by_key.new.self.items (c.sort_unstable_by_key.ensures.sorted (λ s. (s.tile, s.osm)) (answers_always _ _ _ (λ f a r g h. search rules))) in
    subst TilesRise (sym c.deref.ensures.value) (tiles_rise c.sort_unstable_by_key.new.self.items pairs)

pub returns : goal.returns
returns c =
    let pairs : AllPairs IsNotAfter c.sort_unstable_by_key.new.self.items = pairs_from c.sort_unstable_by_key.new.self.items (c.sort_unstable_by_key.ensures.sorted (λ s. (s.tile, s.osm)) (answers_always _ _ _ (λ f a r g h. search rules))) in
    let told = level_told c.args.level c.args.tiles.now c.requires c.in_ok-spots.spots.items c.sort_unstable_by_key.new.self.items c.in_ok-spots.ensures c.sort_unstable_by_key.ensures.permutation pairs in
    subst (λ ts. OnOk c.push_tiles.result (c.push_tiles.new.lifted.items ≡ c.args.lifted.now.items ++ ts)) (ap (λ l. tiles_of_nodes c.args.level (map (placed_of c.args.level c.args.tiles.now) l)) c.deref.ensures.value ∙ told) c.push_tiles.ensures
