-- The names of the pieces with two indexes.
use Rattle.std.proofs.Common.{◌≡◌, ◌∙◌, ℕ, ◌<◌, ◌≤◌, refl, sym, ap, List, [], ◌∷◌, length, get_or, false}
use Rattle.std.proofs.lemmas.Option.{slice_get_read, slice_get_past}
use Rattle.road_pieces.specs.declared.rows.Piece.{Piece}
use Rattle.enhancer.specs.NamesInCommon.{names_in, names_of_piece, share_name}

none_shared : (names : List (List ℕ)) → false ≡ share_name names []
none_shared [] = refl
none_shared (n ∷ ns) = none_shared ns

module _ (pieces : List Piece) where
  no_names : (a : ℕ) → length pieces ≤ a → names_of_piece pieces a ≡ []
  no_names a past = ap names_in (slice_get_past pieces a past)

  pub first_past : (a b : ℕ) → length pieces ≤ a → false ≡ share_name (names_of_piece pieces a) (names_of_piece pieces b)
  first_past a b past = ap (λ ns. share_name ns (names_of_piece pieces b)) (sym (no_names a past))

  pub second_past : (a b : ℕ) → length pieces ≤ b → false ≡ share_name (names_of_piece pieces a) (names_of_piece pieces b)
  second_past a b past = none_shared (names_of_piece pieces a) ∙ ap (share_name (names_of_piece pieces a)) (sym (no_names b past))

  pub names_are : (a : ℕ) (x : Piece) → a < length pieces → x ≡ get_or pieces a x → names_of_piece pieces a ≡ x.names
  names_are a x inside here = ap names_in (slice_get_read pieces (length pieces) a x refl inside here)
