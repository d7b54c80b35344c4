-- The lines of tiles, one after the other.
use Rattle.std.proofs.Common.{◌≡◌, ◌∙◌, ◌+◌, ◌<◌, ◌≤◌, ℕ, zero, suc, List, [], ◌∷◌, ◌++◌, length, get_or, drop, refl, sym, ap, append_assoc, append-nil, arith}
use Rattle.std.specs.List.{zip, flat_map}
use Rattle.build_report.specs.TileLists.{tile_line}

abbrev pub lines_of : List (ℕ × ℕ) → List ℕ
lines_of tiles = flat_map (λ tile. tile_line tile.0 tile.1) tiles

cut : (ids sizes : List ℕ) (i d e : ℕ) → i < length ids → length ids ≡ length sizes → drop i (zip ids sizes) ≡ (get_or ids i d, get_or sizes i e) ∷ drop (suc i) (zip ids sizes)
cut [] sizes i d e lt same = absurd (omega (arith, lt))
cut (x ∷ xs) [] i d e lt same = absurd (omega (arith, same))
cut (x ∷ xs) (y ∷ ys) zero d e lt same = refl
cut (x ∷ xs) (y ∷ ys) (suc i) d e lt same = cut xs ys i d e (omega (arith, lt)) (omega (arith, same))

past : (ids sizes : List ℕ) (i : ℕ) → length ids ≤ i → drop i (zip ids sizes) ≡ []
past [] sizes zero le = refl
past [] sizes (suc i) le = refl
past (x ∷ xs) [] zero le = absurd (omega (arith, le))
past (x ∷ xs) [] (suc i) le = refl
past (x ∷ xs) (y ∷ ys) zero le = absurd (omega (arith, le))
past (x ∷ xs) (y ∷ ys) (suc i) le = past xs ys i (omega (arith, le))

pub lines_more : (ids sizes : List ℕ) (i id size : ℕ) (before now whole : List ℕ) → i < length ids → length ids ≡ length sizes → id ≡ get_or ids i id → size ≡ get_or sizes i 0
    → now ≡ before ++ tile_line id size → before ++ lines_of (drop i (zip ids sizes)) ≡ whole → now ++ lines_of (drop (i + 1) (zip ids sizes)) ≡ whole
lines_more ids sizes i id size before now whole inside same first second line so_far =
    let rest = lines_of (drop (i + 1) (zip ids sizes)) in
    let next : lines_of (drop i (zip ids sizes)) ≡ tile_line id size ++ rest =
    ap lines_of (cut ids sizes i id 0 inside same)
    ∙ (ap (λ j. tile_line (get_or ids i id) (get_or sizes i 0) ++ lines_of (drop j (zip ids sizes))) {x = suc i} {y = i + 1} (omega arith)
    ∙ (ap (λ k. tile_line k (get_or sizes i 0) ++ rest) (sym first) ∙ ap (λ n. tile_line id n ++ rest) (sym second))) in
    ap (λ text. text ++ rest) line ∙ (append_assoc before (tile_line id size) rest ∙ (ap (λ text. before ++ text) (sym next) ∙ so_far))

pub lines_all : (ids sizes : List ℕ) (i : ℕ) (now whole : List ℕ) → length ids ≤ i → now ++ lines_of (drop i (zip ids sizes)) ≡ whole → now ≡ whole
lines_all ids sizes i now whole le so_far = sym (append-nil now) ∙ (ap (λ tiles. now ++ lines_of tiles) (sym (past ids sizes i le)) ∙ so_far)
