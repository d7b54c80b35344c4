-- The first and the last node of a run are junctions.
use Rattle.std.proofs.Common.{◌≡◌, ℕ, zero, suc, ◌+◌, ◌<◌, refl, ◌∙◌, List, [], ◌∷◌, ◌++◌, length, get_or, ℤ, pos, Bool, true, false, cond, arith}
use Rattle.std.specs.Prelude.{Some, find}
use Rattle.std.specs.List.{list_any, flat_map}
use Rattle.std.specs.Option.{option_map_or}
use Rattle.std.specs.Ordering.{int_eq}
use Rattle.std.specs.Cmp.{signed_Decides}
use Rattle.std.proofs.lemmas.Bool.{or_left, or_right}
use Rattle.std.proofs.lemmas.List.Folds.{list_any-append, list_any_at}
use Rattle.osm_model.specs.declared.ways.OsmWay.{OsmWay}
use Rattle.osm_model.specs.declared.extract.Extract.{Extract}
use Rattle.road_pieces.specs.Runs.{way_runs, all_runs, run, is_first, is_last, is_end, is_junction}
use Rattle.road_pieces.specs.Steps.{node}

-- an id is itself
pub same_id : (n : ℤ) → int_eq n n ≡ true
same_id n = (signed_Decides n n).1 refl

-- a run that isn't empty is one of its way's
pub has_place : (r : List (List ℤ)) (k : ℕ) → 0 < length (get_or r k []) → k < length r
has_place [] k h = absurd (omega arith)
has_place (r ∷ rs) zero h = omega arith
has_place (r ∷ rs) (suc k) h = omega (arith, has_place rs k h)

pub has_none : (k : ℕ) → 0 < length (get_or {A = List ℤ} [] k []) → ⊥
has_none k h = omega (arith, has_place [] k h)

-- the chosen way, or one of those after it
step_of : (g : OsmWay → List (List ℤ)) (p : OsmWay → Bool) (f : List ℤ → Bool) (k : ℕ) (way : OsmWay) (ways : List OsmWay) → (0 < length (get_or (option_map_or g (find p ways) []) k []) → f (get_or (option_map_or g (find p ways) []) k []) ≡ true → list_any f (flat_map g ways) ≡ true) → (b : Bool) → 0 < length (get_or (option_map_or g (cond b (Some way) (find p ways)) []) k []) → f (get_or (option_map_or g (cond b (Some way) (find p ways)) []) k []) ≡ true → list_any f (g way ++ flat_map g ways) ≡ true
step_of g p f k way ways more true some is =
    list_any-append f (g way) (flat_map g ways) ∙ or_left _ _ (list_any_at f (g way) k [] (has_place (g way) k some) is)
step_of g p f k way ways more false some is =
    list_any-append f (g way) (flat_map g ways) ∙ or_right _ _ (more some is)

run_of : (g : OsmWay → List (List ℤ)) (p : OsmWay → Bool) (f : List ℤ → Bool) (k : ℕ) (ways : List OsmWay) → 0 < length (get_or (option_map_or g (find p ways) []) k []) → f (get_or (option_map_or g (find p ways) []) k []) ≡ true → list_any f (flat_map g ways) ≡ true
run_of g p f k [] some is = absurd (has_none k some)
run_of g p f k (way ∷ ways) some is = step_of g p f k way ways (run_of g p f k ways) (p way) some is

-- what holds of a run that isn't empty, by a test, holds of some run
pub any_run : (x : Extract) (way : ℤ) (k : ℕ) (f : List ℤ → Bool) → 0 < length (run x way k) → f (run x way k) ≡ true → list_any f (all_runs x) ≡ true
any_run x way k f some is = run_of (way_runs x.nodes) (λ w. int_eq w.id way) f k x.ways some is

end_is_junction : (x : Extract) (way : ℤ) (k : ℕ) (n : ℤ) → 0 < length (run x way k) → is_end n (run x way k) ≡ true → is_junction x n ≡ true
end_is_junction x way k n some is = or_left _ _ (or_left _ _ (any_run x way k (is_end n) some is))

first_is : (r : List ℤ) → 0 < length r → is_first (get_or r 0 (pos 0)) r ≡ true
first_is [] h = absurd (omega arith)
first_is (m ∷ ms) h = same_id m

last_is : (r : List ℤ) (k : ℕ) → k + 1 ≡ length r → is_last (get_or r k (pos 0)) r ≡ true
last_is [] k e = absurd (omega arith)
last_is (m ∷ []) zero e = same_id m
last_is (m ∷ []) (suc k) e = absurd (omega arith)
last_is (m ∷ (n ∷ ns)) zero e = absurd (omega arith)
last_is (m ∷ (n ∷ ns)) (suc k) e = last_is (n ∷ ns) k (omega arith)

-- the first place of a run
pub first_place : (x : Extract) (way : ℤ) (k : ℕ) → 0 < length (run x way k) → is_junction x (node x way k 0) ≡ true
first_place x way k some = end_is_junction x way k (node x way k 0) some (or_left _ _ (first_is (run x way k) some))

-- the last place of a run
pub last_place : (x : Extract) (way : ℤ) (k place : ℕ) → place + 1 ≡ length (run x way k) → is_junction x (node x way k place) ≡ true
last_place x way k place e =
    end_is_junction x way k (node x way k place) (omega arith) (or_right _ _ (last_is (run x way k) place e))
