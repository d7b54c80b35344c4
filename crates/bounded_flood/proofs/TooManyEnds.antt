-- a new end that finds 63 seen
use Rattle.std.proofs.Common.{◌≡◌, ℕ, ◌+◌, ◌<◌, ◌≤◌, ◌==◌, false, List, [], ◌∷◌, ◌++◌, length, drop, get_or, sym, ap, ◌∙◌, arith}
use Rattle.std.specs.Prelude.{nat_eq}
use Rattle.std.proofs.lemmas.Bool.{cond-false, ne_eqb}
use Rattle.std.proofs.lemmas.List.{at_drop_more, length-append}
use Rattle.bounded_flood.specs.Flood.{seen_all, is_seen, seen_too}
use Rattle.bounded_flood.specs.FlatGraph.{ends_without}
use Rattle.bounded_flood.specs.declared.links.Link.{Link}
use Rattle.bounded_flood.proofs.Spreads.{seen_all-front}

pub too_many_ends : (seen target : List ℕ) (links : List Link) (k left : ℕ) (d : Link) → k < length links
    → ((get_or links k d).piece ≡ left → ⊥) → is_seen nat_eq (get_or links k d).end seen ≡ false → 63 ≤ length seen
    → seen_all nat_eq seen (ends_without left (drop k links)) ≡ target → 63 < length target
too_many_ends seen target links k left d inside other fresh full e =
    let l : Link = get_or links k d in
    let rest : List ℕ = ends_without left (drop (k + 1) links) in
    let first : ends_without left (drop k links) ≡ l.end ∷ rest =
    at_drop_more (ends_without left) links k d inside ∙ cond-false (l.piece == left) rest (l.end ∷ rest) (ne_eqb l.piece left other) in
    let grown : seen_too nat_eq seen l.end ≡ seen ++ l.end ∷ [] = cond-false (is_seen nat_eq l.end seen) seen (seen ++ l.end ∷ []) fresh in
    let front = seen_all-front nat_eq (seen ++ l.end ∷ []) rest in
    let whole : target ≡ (seen ++ l.end ∷ []) ++ front.0 =
    sym e ∙ ap (λ es. seen_all nat_eq seen es) first ∙ ap (λ s. seen_all nat_eq s rest) grown ∙ front.1 in
    omega (arith, ap length whole, length-append (seen ++ l.end ∷ []) front.0, length-append seen (l.end ∷ []))
