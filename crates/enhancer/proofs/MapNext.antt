-- One more of the images of a list, and one edge more of a node.
use Rattle.std.proofs.Common.{◌≡◌, ℕ, ◌+◌, ◌<◌, List, [], ◌∷◌, ◌++◌, length, map, take, get_or, sym, ap, ◌∙◌}
use Rattle.std.proofs.lemmas.List.{take_more, map_push}

pub map_next : {X Y : Type 0} (f : X → Y) (found : List Y) (xs : List X) (k : ℕ) (x : X) (y : Y) → k < length xs → x ≡ get_or xs k x → y ≡ f x
    → found ≡ map f (take k xs) → found ++ y ∷ [] ≡ map f (take (k + 1) xs)
map_next f found xs k x y inside here e so_far =
    ap (λ ys. ys ++ y ∷ []) so_far
    ∙ ap (λ z. map f (take k xs) ++ z ∷ []) (e ∙ ap f here)
    ∙ sym (map_push f (take k xs) (get_or xs k x)) ∙ ap (map f) (sym (take_more xs k x inside))
