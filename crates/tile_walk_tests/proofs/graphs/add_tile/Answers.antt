use Rattle.std.proofs.Common.{sym, subst, [], ◌∷◌}
use Rattle.std.proofs.lemmas.List.Elements.{All-append, All-cons, All-nil}
use Rattle.std.specs.Prelude.{All}
use Rattle.tile_bytes.specs.Tiles.{PassesChecks}
use Rattle.tile_walk_tests.proofs.graphs.add_tile.Goals as goal

pub returns : goal.returns
returns c =
    subst (All PassesChecks) (sym c.in_ok-push.ensures.items)
    (All-append PassesChecks c.args.tiles.now.items (c.in_ok-tile.tile ∷ []) c.requires (All-cons PassesChecks c.in_ok-tile.tile [] c.in_ok-tile.ensures (All-nil PassesChecks)))
