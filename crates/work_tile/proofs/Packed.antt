-- Rows in a list of words: how many they are, the row at an index, and one row more.
use Rattle.std.proofs.Common.{◌≡◌, ℕ, zero, suc, ◌+◌, ◌*◌, ◌<◌, ◌≤◌, List, [], ◌∷◌, ◌++◌, length, take, drop, get_or, refl, ap, ◌∙◌, arith}
use Rattle.std.proofs.lemmas.List.{take_all, take-append-le, drop-append-le, drop-drop, length-drop, nil_from_length}
use Rattle.work_tile.specs.PackedRows.{packed_rows}

pub many_rows : {X : Type 0} (read : List ℕ → X) (width count : ℕ) (words : List ℕ) → length (packed_rows read width count words) ≡ count
unfolding packed_rows
many_rows read width zero words = refl
many_rows read width (suc n) words = ap suc (many_rows read width n (drop width words))

pub row_at : {X : Type 0} (read : List ℕ → X) (width count i : ℕ) (words : List ℕ) (d : X) → i < count
    → get_or (packed_rows read width count words) i d ≡ read (take width (drop (width * i) words))
unfolding packed_rows
row_at read width zero i words d h = absurd (omega (arith, h))
row_at read width (suc n) zero words d h =
    let e : 0 ≡ width * 0 = omega arith in
    ap (λ k. read (take width (drop k words))) e
row_at read width (suc n) (suc i) words d h =
    let e : width + width * i ≡ width * suc i = omega arith in
    row_at read width n i (drop width words) d (omega (arith, h))
    ∙ ap (λ ws. read (take width ws)) (drop-drop (width * i) width words ∙ ap (λ k. drop k words) e)

more_rows : {X : Type 0} (read : List ℕ → X) (width count : ℕ) (words more : List ℕ) → length words ≡ width * count → length more ≡ width
    → packed_rows read width (suc count) (words ++ more) ≡ packed_rows read width count words ++ read more ∷ []
unfolding packed_rows
more_rows read width zero words more e f =
    let none : words ≡ [] = nil_from_length words (omega (arith, e)) in
    rw none (ap (λ ws. read ws ∷ []) (take_all width more (omega (arith, f))))
more_rows read width (suc n) words more e f =
    let many : length words ≡ width + width * n = omega (arith, e) in
    let rest : length (drop width words) ≡ width * n = omega (arith, many, length-drop width words) in
    let room : width ≤ length words = omega (arith, many) in
    rw (take-append-le width words more room, drop-append-le width words more room)
    (ap (λ rs. read (take width words) ∷ rs) (more_rows read width n (drop width words) more rest f))

pub rows_more : {X : Type 0} (read : List ℕ → X) (width count : ℕ) (words more : List ℕ) → length words ≡ width * count → length more ≡ width
    → packed_rows read width (count + 1) (words ++ more) ≡ packed_rows read width count words ++ read more ∷ []
rows_more read width count words more e f =
    let k : count + 1 ≡ suc count = omega arith in
    ap (λ n. packed_rows read width n (words ++ more)) k ∙ more_rows read width count words more e f
