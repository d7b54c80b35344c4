-- Rows in order of id stand for objects in order of id.
use Rattle.std.proofs.Common.{◌≡◌, ℕ, ◌+◌, ◌<◌, ℤ, ◌∙◌, ap, List, get_or, length, map, arith}
use Rattle.std.specs.List.Sorted.{IsSortedByKey}
use Rattle.std.specs.Ordering.{int_cmp, is_lt}
use Rattle.std.proofs.lemmas.List.{get_or-map, length-map}

-- where each object has its row's id
pub objects_sorted : {R X : Type 0} (object_of : R → X) (row_id : R → ℤ) (id : X → ℤ) (none : R) → ((row : R) → id (object_of row) ≡ row_id row) → (rows : List R) → IsSortedByKey row_id int_cmp rows → IsSortedByKey id int_cmp (map object_of rows)
objects_sorted object_of row_id id none same rows sorted =
    λ k d low high.
    let within : k + 1 < length rows = omega (arith, high, length-map rows object_of) in
    let at : id (get_or (map object_of rows) (k + 1) d) ≡ row_id (get_or rows (k + 1) none) =
    ap id (get_or-map object_of rows (k + 1) none d within) ∙ same (get_or rows (k + 1) none) in
    let before : id (get_or (map object_of rows) k d) ≡ row_id (get_or rows k none) =
    ap id (get_or-map object_of rows k none d (omega (arith, within))) ∙ same (get_or rows k none) in
    ap (λ n. is_lt (int_cmp n (id (get_or (map object_of rows) k d)))) at ∙
    (ap (λ n. is_lt (int_cmp (row_id (get_or rows (k + 1) none)) n)) before ∙ sorted k none low within)
