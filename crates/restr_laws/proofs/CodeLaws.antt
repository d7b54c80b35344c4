-- Masks, flags and stored patterns of codes are those of directed pieces.
use Rattle.std.proofs.Common.{◌≡◌, ℕ, ◌<◌, refl, sym, ◌∙◌, ap, subst, List, [], ◌∷◌, length, get_or, map, filter, cond, ℤ, Bool, true, false, not, ◌&&◌, ◌||◌, nat_eq, inl, inr, arith}
use Rattle.std.specs.Prelude.{bit_and, bit_or, nat_lt}
use Rattle.std.specs.List.{list_any, list_all}
use Rattle.osm_model.specs.declared.extract.Extract.{Extract}
use Rattle.road_pieces.specs.DirectedPiece.{DirectedPiece}
use Rattle.road_pieces.specs.Rules.{way_access}
use Rattle.road_pieces.proofs.Members.{IsIn, at_in}
use Rattle.road_walks.specs.BaseEdges.{directed_pieces, is_same, reverse_of, local_index, tile_numbers}
use Rattle.road_walks.specs.Masks.{in_mask}
use Rattle.road_walks.proofs.Sorted.{of_filter}
use Rattle.folder_spec.specs.Rows.{tells, has_bit, mask_of, is_flagged, sequence_patterns, all_kept, keeps_piece, stored_patterns}
use Rattle.complex_restr.specs.Codes.{coded_piece, CodesBelow, tells_code, has_code_bit, code_mask, is_told, code_sequences, has_piece, is_code_flagged, are_kept, stored_codes}
use Rattle.complex_restr.proofs.BitNumbers.{same_number}
use Rattle.restr_laws.specs.AtCodes.{piece_at, pattern_at, AreCoded, AreKeptFlags, MasksAtCodes, FlagsAtCodes, StoredAtCodes}
use Rattle.restr_laws.proofs.PieceCodes.{same_codes, same_pieces, same_way}

-- ---- a list and its elements named in another way

any_named : {A B : Type 0} (name : A → B) (p : B → Bool) (q : A → Bool) (xs : List A) → ((a : A) → IsIn xs a → p (name a) ≡ q a) → list_any p (map name xs) ≡ list_any q xs
any_named name p q [] same = refl
any_named name p q (a ∷ xs) same = λ i. same a (inl refl) i || any_named name p q xs (λ b h. same b (inr h)) i

pub filter_named : {A B : Type 0} (name : A → B) (p : B → Bool) (q : A → Bool) (xs : List A) → ((a : A) → IsIn xs a → p (name a) ≡ q a) → filter p (map name xs) ≡ map name (filter q xs)
filter_named name p q [] same = refl
filter_named name p q (a ∷ xs) same =
    (λ i. cond (same a (inl refl) i) (name a ∷ filter_named name p q xs (λ b h. same b (inr h)) i) (filter_named name p q xs (λ b h. same b (inr h)) i)) ∙ by (q a)
  where
    by : (b : Bool) → cond b (name a ∷ map name (filter q xs)) (map name (filter q xs)) ≡ map name (cond b (a ∷ filter q xs) (filter q xs))
    by true = refl
    by false = refl

-- a code of a pattern is a code
code_below : (count : ℕ) (patterns : List (List ℕ × ℕ)) → CodesBelow count patterns → (s : List ℕ × ℕ) → IsIn patterns s → (c : ℕ) → IsIn s.0 c → c < count
code_below count patterns below s h c k =
    let (i, (inside, is)) = at_in patterns s h in
    let (j, (within, at)) = at_in s.0 c k in
    let all = below i s inside in
    subst (λ n. n < count) (at 0) (subst (λ cs. get_or cs j 0 < count) (ap (λ t. t.0) (is s)) (all j 0 (subst (λ t. j < length t.0) (sym (is s)) within)))

module _ (x : Extract) (asked : ℕ) (tile_of : ℕ → ℤ → ℕ) (patterns : List (List ℕ × ℕ)) (locals : List ℕ) (coded : AreCoded x patterns locals) where
  abbrev all : List (List DirectedPiece × ℕ)
  all = map (pattern_at x) patterns

  abbrev count : ℕ
  count = length (directed_pieces x)

  below : (s : List ℕ × ℕ) → IsIn patterns s → (c : ℕ) → IsIn s.0 c → c < count
  below = code_below count patterns coded.below

  abbrev Within : List ℕ × ℕ → Type 0
  Within s = (c : ℕ) → IsIn s.0 c → c < count

  same_tells : (c i : ℕ) → c < count → (s : List ℕ × ℕ) → Within s → tells x tile_numbers (piece_at x c) i (pattern_at x s) ≡ tells_code locals c i s
  same_tells c i h ([], modes) within = refl
  same_tells c i h ((e ∷ []), modes) within = refl
  same_tells c i h ((e ∷ (f ∷ [])), modes) within =
      let index : local_index x (piece_at x f) ≡ get_or locals f 0 = sym (coded.locals_are.each f (within f (inr (inl refl)))) in
      λ j. same_codes x e c (within e (inl refl)) h j && (nat_eq (index j) i && nat_eq modes tile_numbers.vehicles)
  same_tells c i h ((e ∷ (f ∷ (g ∷ rest))), modes) within = refl

  masks_same : (c : ℕ) → c < count → mask_of x asked tile_numbers all tile_of (piece_at x c) ≡ code_mask locals patterns c
  unfolding code_mask
  masks_same c h =
      same_number (has_bit x asked tile_numbers all tile_of (piece_at x c)) (has_code_bit locals patterns c) 0 8
      (λ i _. any_named (pattern_at x) (tells x tile_numbers (piece_at x c) i) (tells_code locals c i) patterns (λ s there. same_tells c i h s (below s there)))

  same_told : (s : List ℕ × ℕ) → Within s → in_mask (local_index x) tile_numbers.vehicles tile_numbers.bits (map (piece_at x) s.0) s.1 ≡ is_told locals s
  same_told ([], modes) within = refl
  same_told ((e ∷ []), modes) within = refl
  same_told ((e ∷ (f ∷ [])), modes) within =
      ap (λ n. nat_eq modes tile_numbers.vehicles && nat_lt n tile_numbers.bits) (sym (coded.locals_are.each f (within f (inr (inl refl)))))
  same_told ((e ∷ (f ∷ (g ∷ rest))), modes) within = refl

  same_sequences : sequence_patterns x asked tile_numbers all tile_of ≡ map (pattern_at x) (code_sequences locals patterns)
  same_sequences =
      filter_named (pattern_at x) (λ s. not (in_mask (local_index x) tile_numbers.vehicles tile_numbers.bits s.0 s.1)) (λ s. not (is_told locals s)) patterns
      (λ s there. ap not (same_told s (below s there)))

  of_sequences : (s : List ℕ × ℕ) → IsIn (code_sequences locals patterns) s → Within s
  of_sequences s there = below s (of_filter (λ t. not (is_told locals t)) patterns s there).0

  flags_same : (c : ℕ) → c < count → is_flagged x asked tile_numbers all tile_of (piece_at x c) ≡ is_code_flagged locals patterns (coded_piece c)
  flags_same c h =
      let p = piece_at x c in
      ap (list_any (λ s. list_any (λ q. is_same q p || is_same q (reverse_of p)) s.0)) same_sequences
      ∙ any_named (pattern_at x) (λ s. list_any (λ q. is_same q p || is_same q (reverse_of p)) s.0) (has_piece (coded_piece c)) (code_sequences locals patterns)
      (λ s there. any_named (piece_at x) (λ q. is_same q p || is_same q (reverse_of p)) (λ e. nat_eq (coded_piece e) (coded_piece c)) s.0
      (λ e k. same_pieces x e c (of_sequences s there e k) h))

  module _ (kept : List Bool) (are : AreKeptFlags x asked kept) where
    same_keeps : (c : ℕ) → c < count → keeps_piece x asked tile_numbers all tile_of (piece_at x c) ≡ get_or kept (coded_piece c) false
    same_keeps c h =
        ap (λ way. not (nat_eq (bit_and (bit_or (way_access x way true) (way_access x way false)) asked) 0)) (same_way x c h)
        ∙ sym (are.each (coded_piece c) (omega (arith, h, are.all)))

    same_kept : (codes : List ℕ) → ((c : ℕ) → IsIn codes c → c < count) → all_kept x asked tile_numbers all tile_of (map (piece_at x) codes) ≡ list_all (λ c. get_or kept (coded_piece c) false) codes
    same_kept [] within = refl
    same_kept (c ∷ codes) within = λ i. same_keeps c (within c (inl refl)) i && same_kept codes (λ e h. within e (inr h)) i

    stored_same : stored_patterns x asked tile_numbers all tile_of ≡ map (pattern_at x) (stored_codes locals kept patterns)
    stored_same =
        ap (filter (λ s. all_kept x asked tile_numbers all tile_of s.0)) same_sequences
        ∙ filter_named (pattern_at x) (λ s. all_kept x asked tile_numbers all tile_of s.0) (are_kept kept) (code_sequences locals patterns)
        (λ s there. same_kept s.0 (of_sequences s there))

pub masks_law : MasksAtCodes
masks_law x asked tile_of patterns locals coded c h = masks_same x asked tile_of patterns locals coded c h

pub flags_law : FlagsAtCodes
flags_law x asked tile_of patterns locals coded c h = flags_same x asked tile_of patterns locals coded c h

pub stored_law : StoredAtCodes
stored_law x asked tile_of patterns locals kept coded are = stored_same x asked tile_of patterns locals coded kept are
