-- Texts, each once, and their places: two ways to say it.
use Rattle.std.proofs.Common.{◌≡◌, ℕ, suc, ◌∙◌, refl, ap, List, [], ◌∷◌, ◌++◌, cond, ◌||◌, ◌&&◌, nat_eq}
use Rattle.std.specs.List.{list_any}
use Rattle.std.specs.Str.{bytes_eq}
use Rattle.road_walks.specs.Orders.{same_numbers}
use Rattle.folder_spec.specs.Tables.{first_index}
use Rattle.folder_spec.specs.Folder.{first_seen}
use Rattle.tile_infos.specs.TileTexts.{with_text, texts_once, text_place}

pub same_text_test : (t s : List ℕ) → bytes_eq t s ≡ same_numbers t s
same_text_test [] [] = refl
same_text_test [] (m ∷ ms) = refl
same_text_test (n ∷ ns) [] = refl
same_text_test (n ∷ ns) (m ∷ ms) = ap (λ b. nat_eq n m && b) (same_text_test ns ms)

any_text : (t : List ℕ) (ts : List (List ℕ)) → list_any (bytes_eq t) ts ≡ list_any (same_numbers t) ts
any_text t [] = refl
any_text t (s ∷ ts) = λ i. same_text_test t s i || any_text t ts i

-- the texts, each where it first stands
pub texts_seen : (before ts : List (List ℕ)) → texts_once before ts ≡ first_seen before ts
texts_seen before [] = refl
texts_seen before (t ∷ ts) =
    texts_seen (with_text before t) ts ∙ ap (λ b. first_seen (cond b before (before ++ t ∷ [])) ts) (any_text t before)

-- the place of a text
pub text_place_is : (ts : List (List ℕ)) (t : List ℕ) → text_place ts t ≡ first_index (same_numbers t) ts
text_place_is [] t = refl
text_place_is (s ∷ ts) t = λ i. cond (same_text_test t s i) 0 (suc (text_place_is ts t i))
