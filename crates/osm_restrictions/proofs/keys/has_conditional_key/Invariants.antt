-- What the tags from here on tell is what all tags tell: none before them speaks of a condition.
use Rattle.std.proofs.Common.{◌≡◌, drop}
use Rattle.std.specs.List.{list_any}
use Rattle.osm_restrictions.specs.Keys.{is_conditional_key}
use Rattle.osm_restrictions.proofs.keys.has_conditional_key.Given as goal

abbrev pub invariant-loop-i : goal.invariant-loop-i
invariant-loop-i l = list_any (λ tag. is_conditional_key tag.key) (drop l.i l.tags) ≡ list_any (λ tag. is_conditional_key tag.key) l.tags
