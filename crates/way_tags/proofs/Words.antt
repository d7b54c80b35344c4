-- Sets of modes as numbers: what holds of the modes one by one holds of the bits, tried at each set.
use Rattle.std.proofs.Common.{◌≡◌, ◌≢◌, ◌↔◌, ℕ, ◌+◌, ◌<◌, lit<, arith, Bool, true, false, not, ◌&&◌, cond, eqb, refl, sym, ap, ◌∙◌}
use Rattle.std.specs.Prelude.{bit_and, bit_or, bit_xor, unwrap_or, Option, Some, None}
use Rattle.std.proofs.lemmas.Bool.{and_parts, eqb-true, both_ways}
use Rattle.way_tags.specs.Modes.{Mode, auto, pedestrian, bicycle, truck, bus, word_of, HasMode}

-- a test passes at both truth values
abbrev at_both : (Bool → Bool) → Bool
at_both test = test true && test false

tried : (test : Bool → Bool) → at_both test ≡ true → (b : Bool) → test b ≡ true
tried test h true = (and_parts (test true) (test false) h).0
tried test h false = (and_parts (test true) (test false) h).1

-- a test passes at each set of modes
abbrev at_sets : (Bool → Bool → Bool → Bool → Bool → Bool) → Bool
at_sets test = at_both (λ a. at_both (λ p. at_both (λ b. at_both (λ t. at_both (λ u. test a p b t u)))))

tried_sets : (test : Bool → Bool → Bool → Bool → Bool → Bool) → at_sets test ≡ true → (a p b t u : Bool) → test a p b t u ≡ true
tried_sets test h a p b t u =
    tried (λ u. test a p b t u)
    (tried (λ t. at_both (λ u. test a p b t u))
    (tried (λ b. at_both (λ t. at_both (λ u. test a p b t u)))
    (tried (λ p. at_both (λ b. at_both (λ t. at_both (λ u. test a p b t u))))
    (tried (λ a. at_both (λ p. at_both (λ b. at_both (λ t. at_both (λ u. test a p b t u))))) h a) p) b) t) u

-- the number of a set of modes
abbrev set_of : Bool → Bool → Bool → Bool → Bool → ℕ
set_of a p b t u = cond a 1 0 + cond p 2 0 + cond b 4 0 + cond t 8 0 + cond u 64 0

or_sets : (a p b t u a' p' b' t' u' : Bool) → bit_or (set_of a p b t u) (set_of a' p' b' t' u') ≡ set_of (unwrap_or (cond a' (Some true) None) a) (unwrap_or (cond p' (Some true) None) p) (unwrap_or (cond b' (Some true) None) b) (unwrap_or (cond t' (Some true) None) t) (unwrap_or (cond u' (Some true) None) u)
or_sets a p b t u a' p' b' t' u' =
    eqb-true (bit_or (set_of a p b t u) (set_of a' p' b' t' u')) (set_of (unwrap_or (cond a' (Some true) None) a) (unwrap_or (cond p' (Some true) None) p) (unwrap_or (cond b' (Some true) None) b) (unwrap_or (cond t' (Some true) None) t) (unwrap_or (cond u' (Some true) None) u))
    (tried_sets (λ x y z v w. eqb (bit_or (set_of a p b t u) (set_of x y z v w)) (set_of (unwrap_or (cond x (Some true) None) a) (unwrap_or (cond y (Some true) None) p) (unwrap_or (cond z (Some true) None) b) (unwrap_or (cond v (Some true) None) t) (unwrap_or (cond w (Some true) None) u)))
    (tried_sets (λ a p b t u. at_sets (λ x y z v w. eqb (bit_or (set_of a p b t u) (set_of x y z v w)) (set_of (unwrap_or (cond x (Some true) None) a) (unwrap_or (cond y (Some true) None) p) (unwrap_or (cond z (Some true) None) b) (unwrap_or (cond v (Some true) None) t) (unwrap_or (cond w (Some true) None) u)))) refl a p b t u) a' p' b' t' u')

without_sets : (a p b t u a' p' b' t' u' : Bool) → bit_and (set_of a p b t u) (bit_xor 79 (set_of a' p' b' t' u')) ≡ set_of (unwrap_or (cond a' (Some false) None) a) (unwrap_or (cond p' (Some false) None) p) (unwrap_or (cond b' (Some false) None) b) (unwrap_or (cond t' (Some false) None) t) (unwrap_or (cond u' (Some false) None) u)
without_sets a p b t u a' p' b' t' u' =
    eqb-true (bit_and (set_of a p b t u) (bit_xor 79 (set_of a' p' b' t' u'))) (set_of (unwrap_or (cond a' (Some false) None) a) (unwrap_or (cond p' (Some false) None) p) (unwrap_or (cond b' (Some false) None) b) (unwrap_or (cond t' (Some false) None) t) (unwrap_or (cond u' (Some false) None) u))
    (tried_sets (λ x y z v w. eqb (bit_and (set_of a p b t u) (bit_xor 79 (set_of x y z v w))) (set_of (unwrap_or (cond x (Some false) None) a) (unwrap_or (cond y (Some false) None) p) (unwrap_or (cond z (Some false) None) b) (unwrap_or (cond v (Some false) None) t) (unwrap_or (cond w (Some false) None) u)))
    (tried_sets (λ a p b t u. at_sets (λ x y z v w. eqb (bit_and (set_of a p b t u) (bit_xor 79 (set_of x y z v w))) (set_of (unwrap_or (cond x (Some false) None) a) (unwrap_or (cond y (Some false) None) p) (unwrap_or (cond z (Some false) None) b) (unwrap_or (cond v (Some false) None) t) (unwrap_or (cond w (Some false) None) u)))) refl a p b t u) a' p' b' t' u')

and_sets : (a p b t u a' p' b' t' u' : Bool) → bit_and (set_of a p b t u) (set_of a' p' b' t' u') ≡ set_of (a && a') (p && p') (b && b') (t && t') (u && u')
and_sets a p b t u a' p' b' t' u' =
    eqb-true (bit_and (set_of a p b t u) (set_of a' p' b' t' u')) (set_of (a && a') (p && p') (b && b') (t && t') (u && u'))
    (tried_sets (λ x y z v w. eqb (bit_and (set_of a p b t u) (set_of x y z v w)) (set_of (a && x) (p && y) (b && z) (t && v) (u && w)))
    (tried_sets (λ a p b t u. at_sets (λ x y z v w. eqb (bit_and (set_of a p b t u) (set_of x y z v w)) (set_of (a && x) (p && y) (b && z) (t && v) (u && w)))) refl a p b t u) a' p' b' t' u')

-- modes that are permitted
pub overridden_permitted : (word modes : ℕ) (verdict : Option Bool) → verdict ≡ Some true → (f g : Mode → Bool) → word ≡ word_of f → modes ≡ word_of g → bit_or word modes ≡ word_of (λ mode. unwrap_or (cond (g mode) verdict None) (f mode))
overridden_permitted word modes verdict says f g at_word at_modes =
    ap (λ w. bit_or w modes) at_word ∙ ap (λ m. bit_or (word_of f) m) at_modes
    ∙ or_sets (f auto) (f pedestrian) (f bicycle) (f truck) (f bus) (g auto) (g pedestrian) (g bicycle) (g truck) (g bus)
    ∙ ap (λ v. word_of (λ mode. unwrap_or (cond (g mode) v None) (f mode))) (sym says)

-- modes that are refused
pub overridden_refused : (word modes : ℕ) (verdict : Option Bool) → verdict ≡ Some false → (f g : Mode → Bool) → word ≡ word_of f → modes ≡ word_of g → bit_and word (bit_xor 79 modes) ≡ word_of (λ mode. unwrap_or (cond (g mode) verdict None) (f mode))
overridden_refused word modes verdict says f g at_word at_modes =
    ap (λ w. bit_and w (bit_xor 79 modes)) at_word ∙ ap (λ m. bit_and (word_of f) (bit_xor 79 m)) at_modes
    ∙ without_sets (f auto) (f pedestrian) (f bicycle) (f truck) (f bus) (g auto) (g pedestrian) (g bicycle) (g truck) (g bus)
    ∙ ap (λ v. word_of (λ mode. unwrap_or (cond (g mode) v None) (f mode))) (sym says)

-- the modes of two sets
pub both_words : (f g : Mode → Bool) → bit_and (word_of f) (word_of g) ≡ word_of (λ mode. f mode && g mode)
both_words f g = and_sets (f auto) (f pedestrian) (f bicycle) (f truck) (f bus) (g auto) (g pedestrian) (g bicycle) (g truck) (g bus)

-- a set's number has the bits of its modes
pub within_all : (f : Mode → Bool) → bit_and (word_of f) 79 ≡ word_of f
within_all f = both_words f (λ mode. true) ∙ keeps (f auto) (f pedestrian) (f bicycle) (f truck) (f bus)
  where
    one : (b : Bool) → (b && true) ≡ b
    one true = refl
    one false = refl

    keeps : (a p b t u : Bool) → set_of (a && true) (p && true) (b && true) (t && true) (u && true) ≡ set_of a p b t u
    keeps a p b t u = simp (one a, one p, one b, one t, one u)

-- a bit is there where its mode is in the set
tells : (x : Bool) (n bit : ℕ) → 0 < bit → n ≡ cond x bit 0 → (n ≢ 0) ↔ (x ≡ true)
tells true n bit some e = (λ h. refl, λ h none. omega (arith, e, none, some))
tells false n bit some e = (λ h. absurd (h e), λ h. absurd (both_ways false refl h))

bit_tried : (bit : ℕ) (pick : Bool → Bool → Bool → Bool → Bool → Bool) → at_sets (λ a p b t u. eqb (bit_and (set_of a p b t u) bit) (cond (pick a p b t u) bit 0)) ≡ true → (a p b t u : Bool) → bit_and (set_of a p b t u) bit ≡ cond (pick a p b t u) bit 0
bit_tried bit pick h a p b t u =
    eqb-true (bit_and (set_of a p b t u) bit) (cond (pick a p b t u) bit 0)
    (tried_sets (λ a p b t u. eqb (bit_and (set_of a p b t u) bit) (cond (pick a p b t u) bit 0)) h a p b t u)

-- the bits of a set's number are those of its modes
pub has_mode : (f : Mode → Bool) (mode : Mode) → HasMode (word_of f) mode ↔ (f mode ≡ true)
has_mode f auto = tells (f auto) (bit_and (word_of f) 1) 1 (lit< tt) (bit_tried 1 (λ a p b t u. a) refl (f auto) (f pedestrian) (f bicycle) (f truck) (f bus))
has_mode f pedestrian = tells (f pedestrian) (bit_and (word_of f) 2) 2 (lit< tt) (bit_tried 2 (λ a p b t u. p) refl (f auto) (f pedestrian) (f bicycle) (f truck) (f bus))
has_mode f bicycle = tells (f bicycle) (bit_and (word_of f) 4) 4 (lit< tt) (bit_tried 4 (λ a p b t u. b) refl (f auto) (f pedestrian) (f bicycle) (f truck) (f bus))
has_mode f truck = tells (f truck) (bit_and (word_of f) 8) 8 (lit< tt) (bit_tried 8 (λ a p b t u. t) refl (f auto) (f pedestrian) (f bicycle) (f truck) (f bus))
has_mode f bus = tells (f bus) (bit_and (word_of f) 64) 64 (lit< tt) (bit_tried 64 (λ a p b t u. u) refl (f auto) (f pedestrian) (f bicycle) (f truck) (f bus))

-- the same modes have the same number
pub word_same : (f g : Mode → Bool) → ((mode : Mode) → f mode ≡ g mode) → word_of f ≡ word_of g
word_same f g same = λ i. word_of (λ mode. same mode i)

-- the modes of one set without those of another
pub without_word : (f g : Mode → Bool) → bit_and (word_of f) (bit_xor 79 (word_of g)) ≡ word_of (λ mode. f mode && not (g mode))
without_word f g =
    overridden_refused (word_of f) (word_of g) (Some false) refl f g refl refl
    ∙ word_same (λ mode. unwrap_or (cond (g mode) (Some false) None) (f mode)) (λ mode. f mode && not (g mode)) (λ mode. one (f mode) (g mode))
  where
    one : (x y : Bool) → unwrap_or (cond y (Some false) None) x ≡ (x && not y)
    one true true = refl
    one true false = refl
    one false true = refl
    one false false = refl
