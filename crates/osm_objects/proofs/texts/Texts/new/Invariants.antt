use Rattle.std.proofs.Common.{◌≡◌, map, take}
use Rattle.osm_objects.proofs.Table.{bytes_in}
use Rattle.osm_objects.proofs.texts.Texts.new.Given as goal

abbrev pub invariant-loop-i : goal.invariant-loop-i
invariant-loop-i l = bytes_in l.entries.items ≡ map (λ text. text.now) (take l.i l.table)
