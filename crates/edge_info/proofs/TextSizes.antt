-- The bytes of one text more.
use Rattle.std.proofs.Common.{◌≡◌, ℕ, suc, ◌+◌, ◌<◌, List, [], ◌∷◌, ◌++◌, length, get_or, take, sym, ap, ◌∙◌, arith}
use Rattle.std.specs.List.{flat_map}
use Rattle.std.proofs.lemmas.List.{append-nil, length-append}
use Rattle.std.proofs.lemmas.List.Concat.{flat_map-append, flat_map-cons}
use Rattle.std.proofs.Math.Seq.{take-suc}
use Rattle.section_grammar.specs.WordBytes.{half_bytes}
use Rattle.section_grammar.proofs.WordLaws.{half_length}
use Rattle.edge_info.specs.Texts.{text_bytes, texts_bytes}

one_length : (t : List ℕ) → length (text_bytes t) ≡ 4 + length t
unfolding text_bytes
one_length t = length-append (half_bytes (length t)) t ∙ ap (λ n. n + length t) (half_length (length t))

pub text_one_more : (texts : List (List ℕ)) (i size : ℕ) (t none : List ℕ) → i < length texts → t ≡ get_or texts i none → size ≡ length (texts_bytes (take i texts))
    → size + (4 + length t) ≡ length (texts_bytes (take (i + 1) texts))
text_one_more texts i size t none lt here so_far =
    let k : i + 1 ≡ suc i = omega arith in
    let last : flat_map text_bytes (get_or texts i none ∷ []) ≡ text_bytes t = flat_map-cons text_bytes (get_or texts i none) [] ∙ append-nil (text_bytes (get_or texts i none)) ∙ ap text_bytes (sym here) in
    let parts : texts_bytes (take (suc i) texts) ≡ texts_bytes (take i texts) ++ text_bytes t =
    ap (flat_map text_bytes) (take-suc texts i none lt) ∙ flat_map-append text_bytes (take i texts) (get_or texts i none ∷ []) ∙ ap (λ l. flat_map text_bytes (take i texts) ++ l) last in
    let sum = length-append (texts_bytes (take i texts)) (text_bytes t) in
    let next : length (texts_bytes (take (suc i) texts)) ≡ size + (4 + length t) = ap length parts ∙ omega (arith, sum, one_length t, so_far) in
    sym (ap (λ n. length (texts_bytes (take n texts))) k ∙ next)
