-- Parts of a list stay as they are where more is put behind the list.
use Rattle.std.proofs.Common.{◌≡◌, ℕ, ◌-◌, ◌≤◌, refl, ◌∙◌, ap, List, [], ◌∷◌, ◌++◌, length, map, take, drop, arith}
use Rattle.std.specs.Prelude.{slice_range, Result, Ok, Err, OnErr}
use Rattle.std.proofs.lemmas.List.{map-append, length-append, length-drop, drop_at, drop-append-le, take-append-le, take_all}
use Rattle.std.proofs.lemmas.List.Elements.{All-head, All-tail}
use Rattle.tile_bytes.specs.declared.spans.Span.{Span}
use Rattle.tile_bytes.specs.Spans.{part_of, LiesWithin, LieWithin}

pub part_append : {X : Type 0} (xs more : List X) (from to : ℕ) → from ≤ to → to ≤ length xs → slice_range (xs ++ more) from to ≡ slice_range xs from to
part_append xs more from to h l =
    ap (take (to - from)) (drop-append-le from xs more (omega arith)) ∙ take-append-le (to - from) (drop from xs) more (omega (arith, length-drop from xs))

-- what was put behind the others is the part from there on
pub part_end : {X : Type 0} (xs more : List X) → slice_range (xs ++ more) (length xs) (length (xs ++ more)) ≡ more
part_end xs more =
    ap (take (length (xs ++ more) - length xs)) (drop_at xs more (length xs) refl) ∙ take_all (length (xs ++ more) - length xs) more (omega (arith, length-append xs more))

pub at_err : {T E : Type 0} (r : Result T E) {P : Type 0} → P → OnErr r P
at_err (Ok x) p = tt
at_err (Err e) p = p

pub parts_append : {X : Type 0} (xs more : List X) (spans : List Span) → LieWithin xs spans → map (part_of (xs ++ more)) spans ≡ map (part_of xs) spans
parts_append xs more [] within = refl
parts_append xs more (span ∷ spans) within =
    let here : LiesWithin (length xs) span = All-head (LiesWithin (length xs)) span spans within in
    ap (λ p. p ∷ map (part_of (xs ++ more)) spans) (part_append xs more span.from span.to here.rises here.inside)
    ∙ ap (λ l. part_of xs span ∷ l) (parts_append xs more spans (All-tail (LiesWithin (length xs)) span spans within))

pub parts_kept : {X : Type 0} (old : List (List X)) (xs xs' more : List X) (spans spans' : List Span) → map (part_of xs) spans ≡ old → LieWithin xs spans → xs' ≡ xs ++ more → spans' ≡ spans → map (part_of xs') spans' ≡ old
parts_kept old xs xs' more spans spans' e within grew same =
    ap (λ s. map (part_of xs') s) same ∙ (ap (λ x. map (part_of x) spans) grew ∙ (parts_append xs more spans within ∙ e))

pub part_behind : {X : Type 0} (old : List (List X)) (xs xs' more : List X) (spans spans' : List Span) → map (part_of xs) spans ≡ old → LieWithin xs spans → xs' ≡ xs ++ more → spans' ≡ spans ++ record { from = length xs; to = length xs' } ∷ [] → map (part_of xs') spans' ≡ old ++ more ∷ []
part_behind old xs xs' more spans spans' e within grew pushed =
    let span : Span = record { from = length xs; to = length xs' } in
    ap (map (part_of xs')) pushed ∙ (map-append (part_of xs') spans (span ∷ []) ∙
    (ap (λ l. l ++ part_of xs' span ∷ []) (parts_kept old xs xs' more spans spans e within grew refl) ∙
    ap (λ p. old ++ p ∷ []) (ap (λ n. slice_range n (length xs) (length n)) grew ∙ part_end xs more)))
