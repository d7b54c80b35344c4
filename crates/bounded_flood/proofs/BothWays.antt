-- where neighbours are neighbours both ways, so is being linked: one flood settles both directions of a piece where it meets
use Rattle.std.proofs.Common.{List}
use Rattle.bounded_flood.specs.Flood.{Occurs, Linked, to_itself, by_link}

module _ {J : Type 0} (near : J → List J) where
  pub link_on : {a b c : J} → Linked near a b → Linked near b c → Linked near a c
  link_on p to_itself = p
  link_on p (by_link l h) = by_link (link_on p l) h

  pub link_back : ((x y : J) → Occurs y (near x) → Occurs x (near y)) → {v x : J} → Linked near v x → Linked near x v
  link_back both to_itself = to_itself
  link_back both (by_link {x = w} {y = y} l h) = link_on (by_link to_itself (both w y h)) (link_back both l)
