-- One relation more, in the list of what relations say.
use Rattle.std.proofs.Common.{◌≡◌, ℕ, ◌+◌, ◌<◌, refl, ap, ◌∙◌, List, [], ◌∷◌, ◌++◌, length, get_or, take}
use Rattle.std.specs.Prelude.{Option, Some, None, filter_map, option_to_list}
use Rattle.std.specs.List.{cons_option}
use Rattle.std.proofs.lemmas.List.{take_more}
use Rattle.std.proofs.lemmas.List.Elements.{filter_map-append}

alone : {Y : Type 0} (o : Option Y) → cons_option o [] ≡ option_to_list o
alone None = refl
alone (Some y) = refl

pub filter_map_more : {X Y : Type 0} (h : X → Option Y) (xs : List X) (i : ℕ) (d : X) → i < length xs → filter_map h (take (i + 1) xs) ≡ filter_map h (take i xs) ++ option_to_list (h (get_or xs i d))
filter_map_more h xs i d inside =
    ap (filter_map h) (take_more xs i d inside) ∙ filter_map-append h (take i xs) (get_or xs i d ∷ [])
    ∙ ap (λ l. filter_map h (take i xs) ++ l) (alone (h (get_or xs i d)))
