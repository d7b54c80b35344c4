-- Patterns stay as they are where codes are added after theirs.
use Rattle.std.proofs.Common.{◌≡◌, ℕ, ◌+◌, sym, ◌∙◌, ap, subst, refl, List, [], ◌∷◌, ◌++◌, length, map, arith}
use Rattle.std.specs.Prelude.{slice_range}
use Rattle.std.proofs.lemmas.List.{map-append, length-append}
use Rattle.std.proofs.lemmas.List.Elements.{All-head, All-tail, All-push}
use Rattle.osm_model.proofs.TextLemmas.{part_append, part_end}
use Rattle.complex_restr.specs.declared.patterns.PatternRow.{PatternRow}
use Rattle.complex_restr.specs.PatternRows.{pattern_of, IsInside, AreInside}

more_codes : (codes more : List ℕ) (rows : List PatternRow) → AreInside codes rows → map (pattern_of (codes ++ more)) rows ≡ map (pattern_of codes) rows
more_codes codes more [] inside = refl
more_codes codes more (row ∷ rows) inside =
    let here : IsInside (length codes) row = All-head (IsInside (length codes)) row rows inside in
    ap (λ part. (part, row.modes) ∷ map (pattern_of (codes ++ more)) rows) (part_append codes more row.from row.to here.rises here.inside)
    ∙ ap (λ l. pattern_of codes row ∷ l) (more_codes codes more rows (All-tail (IsInside (length codes)) row rows inside))

wider : (codes more : List ℕ) (rows : List PatternRow) → AreInside codes rows → AreInside (codes ++ more) rows
wider codes more rows inside =
    λ k d h. let here = inside k d h in record { rises = here.rises; inside = omega (arith, here.inside, length-append codes more) }

-- codes without a row leave the patterns
pub patterns_kept : (old : List (List ℕ × ℕ)) (codes codes' more : List ℕ) (rows rows' : List PatternRow) → map (pattern_of codes) rows ≡ old → AreInside codes rows → codes' ≡ codes ++ more → rows' ≡ rows → map (pattern_of codes') rows' ≡ old
patterns_kept old codes codes' more rows rows' e inside g same =
    ap (map (pattern_of codes')) same ∙ (ap (λ c. map (pattern_of c) rows) g ∙ (more_codes codes more rows inside ∙ e))

pub inside_kept : (codes codes' more : List ℕ) (rows rows' : List PatternRow) → AreInside codes rows → codes' ≡ codes ++ more → rows' ≡ rows → AreInside codes' rows'
inside_kept codes codes' more rows rows' inside g same =
    subst (AreInside codes') (sym same) (subst (λ c. AreInside c rows) (sym g) (wider codes more rows inside))

-- a pattern behind the others
pub pattern_behind : (old : List (List ℕ × ℕ)) (codes codes' more : List ℕ) (rows rows' : List PatternRow) (modes : ℕ) → map (pattern_of codes) rows ≡ old → AreInside codes rows → codes' ≡ codes ++ more → rows' ≡ rows ++ record { from = length codes; to = length codes'; modes = modes } ∷ [] → map (pattern_of codes') rows' ≡ old ++ (more, modes) ∷ []
pattern_behind old codes codes' more rows rows' modes e inside g pushed =
    let row : PatternRow = record { from = length codes; to = length codes'; modes = modes } in
    ap (map (pattern_of codes')) pushed ∙ (map-append (pattern_of codes') rows (row ∷ [])
    ∙ (ap (λ l. l ++ pattern_of codes' row ∷ []) (patterns_kept old codes codes' more rows rows e inside g refl)
    ∙ ap (λ part. old ++ (part, modes) ∷ []) (ap (λ c. slice_range c (length codes) (length c)) g ∙ part_end codes more)))

pub inside_behind : (codes codes' more : List ℕ) (rows rows' : List PatternRow) (modes : ℕ) → AreInside codes rows → codes' ≡ codes ++ more → rows' ≡ rows ++ record { from = length codes; to = length codes'; modes = modes } ∷ [] → AreInside codes' rows'
inside_behind codes codes' more rows rows' modes inside g pushed =
    let longer : length codes' ≡ length codes + length more = ap (λ l. length l) g ∙ length-append codes more in
    subst (AreInside codes') (sym pushed)
    (All-push (IsInside (length codes')) rows (record { from = length codes; to = length codes'; modes = modes })
    (inside_kept codes codes' more rows rows inside g refl)
    (record { rises = omega (arith, longer); inside = omega arith }))
