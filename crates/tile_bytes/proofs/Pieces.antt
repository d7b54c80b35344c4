-- One more piece put behind the bytes.
use Rattle.std.proofs.Common.{◌≡◌, ℕ, suc, ◌+◌, ◌<◌, List, [], ◌∷◌, ◌++◌, length, get_or, take, refl, sym, ap, ◌∙◌, append_assoc, arith}
use Rattle.std.specs.List.{flat_map}
use Rattle.std.proofs.lemmas.List.{append-nil}
use Rattle.std.proofs.lemmas.List.Concat.{flat_map-append, flat_map-cons}
use Rattle.std.proofs.Math.Seq.{take-suc}
use Rattle.tile_bytes.specs.declared.sequences.Sequence.{Sequence}

piece_more : {A : Type 0} (spell : A → List ℕ) (xs : List A) (i : ℕ) (x none : A) (out : List ℕ) → i < length xs → x ≡ get_or xs i none → out ≡ flat_map spell (take i xs) → out ++ spell x ≡ flat_map spell (take (i + 1) xs)
piece_more {A = A} spell xs i x none out lt here so_far =
    let k : i + 1 ≡ suc i = omega arith in
    let last : flat_map spell (get_or xs i none ∷ []) ≡ spell x = flat_map-cons spell (get_or xs i none) [] ∙ append-nil (spell (get_or xs i none)) ∙ ap spell (sym here) in
    let parts : flat_map spell (take (suc i) xs) ≡ flat_map spell (take i xs) ++ spell x =
    ap (flat_map spell) (take-suc xs i none lt) ∙ flat_map-append spell (take i xs) (get_or xs i none ∷ []) ∙ ap (λ l. flat_map spell (take i xs) ++ l) last in
    ap (λ l. l ++ spell x) so_far ∙ sym parts ∙ ap (λ n. flat_map spell (take n xs)) (sym k)

pub spelled_behind : {A : Type 0} (spell : A → List ℕ) (xs : List A) (i : ℕ) (x none : A) (first out : List ℕ) → i < length xs → x ≡ get_or xs i none → out ≡ first ++ flat_map spell (take i xs)
    → out ++ spell x ≡ first ++ flat_map spell (take (i + 1) xs)
spelled_behind spell xs i x none first out lt here so_far =
    ap (λ l. l ++ spell x) so_far ∙ append_assoc first (flat_map spell (take i xs)) (spell x) ∙ ap (λ l. first ++ l) (piece_more spell xs i x none (flat_map spell (take i xs)) lt here refl)

pub sequence_is : (edges : List ℕ) (modes : ℕ) (s : Sequence) → edges ≡ s.edges → modes ≡ s.modes → ◌≡◌ {A = Sequence} (record { edges = edges; modes = modes }) s
sequence_is edges modes s e f = rw (e, f) refl
