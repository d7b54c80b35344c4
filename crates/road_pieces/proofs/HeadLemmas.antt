-- Lines stay as they are where places are added after them, or taken away.
use Rattle.std.proofs.Common.{◌≡◌, ℕ, suc, ◌-◌, ◌<◌, ◌≤◌, refl, sym, ◌∙◌, ap, subst, List, [], ◌∷◌, ◌++◌, length, map, take, drop, ◌==◌, arith}
use Rattle.std.specs.Prelude.{All, slice_range, slice_get, Some}
use Rattle.std.proofs.lemmas.Bool.{lt-leb, cond-false}
use Rattle.std.proofs.lemmas.List.{drop-append-le, take-append-le, take-append-drop, length-drop, length-take-le, append-nil}
use Rattle.std.proofs.lemmas.List.Elements.{All-head, All-tail}
use Rattle.osm_model.proofs.TextLemmas.{part_append}
use Rattle.road_pieces.specs.declared.lines.Head.{Head}
use Rattle.road_pieces.specs.Lines.{Draft, ends_with, closed}
use Rattle.road_pieces.specs.Heads.{line_of, EndsBy, AreKept, draft_of}

some_is : (a b : ℕ) → Some a ≡ Some b → a ≡ b
some_is a b e = cc

pub lines_append : (places more : List ℕ) (heads : List Head) (begun : ℕ) → All (EndsBy begun) heads → begun ≤ length places → map (line_of (places ++ more)) heads ≡ map (line_of places) heads
lines_append places more [] begun ends inside = refl
lines_append places more (h ∷ heads) begun ends inside =
    let here : EndsBy begun h = All-head (EndsBy begun) h heads ends in
    let part : slice_range (places ++ more) h.from h.to ≡ slice_range places h.from h.to =
    part_append places more h.from h.to here.rises (omega (arith, here.inside)) in
    ap (λ p. record { way = h.way; number = h.number; places = p } ∷ map (line_of (places ++ more)) heads) part ∙ ap (λ l. line_of places h ∷ l) (lines_append places more heads begun (All-tail (EndsBy begun) h heads ends) inside)

lines_take : (places : List ℕ) (heads : List Head) (begun : ℕ) → AreKept places heads begun → map (line_of (take begun places)) heads ≡ map (line_of places) heads
lines_take places heads begun kept =
    sym (lines_append (take begun places) (drop begun places) heads begun kept.ended (omega (arith, length-take-le begun places kept.inside))) ∙ ap (λ p. map (line_of p) heads) (take-append-drop begun places)

-- a begun run that is no line is dropped
pub dropped : (old : Draft) (places new : List ℕ) (heads : List Head) (begun way number : ℕ) → draft_of places heads begun ≡ old → AreKept places heads begun → new ≡ take begun places → length places - begun < 2 → map (line_of new) heads ≡ old.done ++ closed way number old.begun
dropped old places new heads begun way number e kept taken short =
    let none : closed way number (drop begun places) ≡ [] = cond-false _ _ _ (lt-leb 2 (length (drop begun places)) (omega (arith, length-drop begun places))) in
    subst (λ o. map (line_of new) heads ≡ o.done ++ closed way number o.begun) e
    (ap (λ p. map (line_of p) heads) taken ∙ (lines_take places heads begun kept ∙ (sym (append-nil (map (line_of places) heads)) ∙ ap (λ l. map (line_of places) heads ++ l) (sym none))))

-- a place after the others leaves the lines
pub done_stays : (old : Draft) (places new : List ℕ) (heads : List Head) (begun place : ℕ) → draft_of places heads begun ≡ old → AreKept places heads begun → new ≡ places ++ place ∷ [] → map (line_of new) heads ≡ old.done
done_stays old places new heads begun place e kept pushed =
    ap (λ p. map (line_of p) heads) pushed ∙ (lines_append places (place ∷ []) heads begun kept.ended kept.inside ∙ ap (λ o. o.done) e)

-- the last element decides whether a list ends with a place
pub ends_with_last : (places : List ℕ) (place last : ℕ) → Some last ≡ slice_get places (length places - 1) → (last == place) ≡ ends_with place places
ends_with_last [] place last e = cc
ends_with_last (p ∷ []) place last e = ap (λ n. n == place) (some_is last p e)
ends_with_last (p ∷ (q ∷ places)) place last e =
    ends_with_last (q ∷ places) place last (e ∙ ap (slice_get (p ∷ (q ∷ places))) {x = length (p ∷ (q ∷ places)) - 1} {y = suc (length (q ∷ places) - 1)} (omega arith))
