-- What is left of a set of modes where each part takes some away.
use Rattle.std.proofs.Common.{◌≡◌, ℕ, Bool, true, false, not, ◌&&◌, ◌||◌, refl, ap, ◌∙◌, List, [], ◌∷◌}
use Rattle.std.specs.Prelude.{bit_and, bit_xor, fold}
use Rattle.std.specs.List.{list_any}
use Rattle.way_tags.specs.Modes.{Mode, word_of}
use Rattle.way_tags.proofs.Words.{word_same, without_word}
use Rattle.osm_restrictions.specs.Exceptions.{is_taken_away, without_spaces, taken_modes}

none_taken : (x : Bool) → x ≡ (x && not false)
none_taken true = refl
none_taken false = refl

taken_twice : (x y z : Bool) → ((x && not y) && not z) ≡ (x && not (y || z))
taken_twice true true z = refl
taken_twice true false z = refl
taken_twice false true z = refl
taken_twice false false z = refl

pub left_by_parts : (f : Mode → Bool) (parts : List (List ℕ)) → fold (λ left part. bit_and left (bit_xor 79 (taken_modes part))) (word_of f) parts ≡ word_of (λ mode. f mode && not (list_any (λ part. is_taken_away (without_spaces part) mode) parts))
unfolding taken_modes
left_by_parts f [] = word_same f (λ mode. f mode && not false) (λ mode. none_taken (f mode))
left_by_parts f (part ∷ parts) =
    ap (λ w. fold (λ left part. bit_and left (bit_xor 79 (taken_modes part))) w parts) (without_word f (is_taken_away (without_spaces part)))
    ∙ left_by_parts (λ mode. f mode && not (is_taken_away (without_spaces part) mode)) parts
    ∙ word_same (λ mode. (f mode && not (is_taken_away (without_spaces part) mode)) && not (list_any (λ part. is_taken_away (without_spaces part) mode) parts))
    (λ mode. f mode && not (is_taken_away (without_spaces part) mode || list_any (λ part. is_taken_away (without_spaces part) mode) parts))
    (λ mode. taken_twice (f mode) (is_taken_away (without_spaces part) mode) (list_any (λ part. is_taken_away (without_spaces part) mode) parts))
