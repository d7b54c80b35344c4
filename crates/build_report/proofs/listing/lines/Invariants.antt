-- The lines so far and those of the tiles that are left are the whole list.
use Rattle.std.proofs.Common.{◌≡◌, ◌++◌, drop}
use Rattle.std.specs.List.{zip, flat_map}
use Rattle.std.specs.String.{string_bytes}
use Rattle.build_report.specs.TileLists.{tile_line, tile_list}
use Rattle.build_report.proofs.listing.lines.Given as goal

abbrev pub invariant-loop-i : goal.invariant-loop-i
invariant-loop-i l =
    string_bytes l.text ++ flat_map (λ tile. tile_line tile.0 tile.1) (drop l.i (zip l.ids l.sizes)) ≡ tile_list l.ids l.sizes
