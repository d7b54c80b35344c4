-- marks that are taken back one after the other
use Rattle.std.proofs.Common.{◌≡◌, ℕ, ◌+◌, ◌<◌, ◌==◌, Bool, true, false, List, [], ◌∷◌, length, drop, set, get_or, sym, ap, ◌∙◌, inl, inr, arith}
use Rattle.std.specs.Prelude.{nat_eq, slice_index_or}
use Rattle.std.proofs.lemmas.Bool.{or_cases, eqb-true, cases_eq, false_from_ne_true}
use Rattle.std.proofs.lemmas.List.{drop_more, get_or-set_same, get_or-set_other, length-set}
use Rattle.bounded_flood.specs.Flood.{is_seen}
use Rattle.bounded_flood.specs.FlatGraph.{MarksShow}

-- only these have a mark that is set
pub record OnlyMarked (marks : List Bool) (rest : List ℕ) : Type 0 where
  pub only : (y : ℕ) → y < length marks → slice_index_or marks y false ≡ true → is_seen nat_eq y rest ≡ true

pub only_marked-first : (marks : List Bool) (seen rest : List ℕ) → MarksShow marks seen → rest ≡ seen → OnlyMarked marks rest
only_marked-first marks seen rest m e = record {
  only = λ y inside h. ap (λ s. is_seen nat_eq y s) e ∙ sym (m.shows y inside) ∙ h;
}

pub only_marked-next : (marks new : List Bool) (seen : List ℕ) (k x : ℕ) → k < length seen → x ≡ get_or seen k 0 → x < length marks
    → new ≡ set marks x false → OnlyMarked marks (drop k seen) → OnlyMarked new (drop (k + 1) seen)
only_marked-next marks new seen k x inside is there e m = record {
  only = λ y small h.
      let was_small : y < length marks = omega (arith, ap length e, length-set marks x false, small) in
      let now : get_or (set marks x false) y false ≡ true = ap (λ ms. get_or ms y false) (sym e) ∙ h in
      elim (cases_eq y x) [
        | inl same ↦ absurd (cc (get_or-set_same marks x false false there, ap (λ i. get_or (set marks x false) i false) same, now))
        | inr other ↦
            let before : is_seen nat_eq y (drop k seen) ≡ true =
            m.only y was_small (sym (get_or-set_other marks x y false false other) ∙ now) in
            let parts : is_seen nat_eq y (x ∷ drop (k + 1) seen) ≡ true =
            ap (λ z. is_seen nat_eq y (z ∷ drop (k + 1) seen)) is ∙ ap (λ s. is_seen nat_eq y s) (sym (drop_more seen k 0 inside)) ∙ before in
            elim (or_cases (x == y) (is_seen nat_eq y (drop (k + 1) seen)) parts) [
              | inl eq ↦ absurd (other (sym (eqb-true x y eq)))
              | inr r ↦ r
            ]
      ];
}

pub only_marked-none : (marks : List Bool) (rest : List ℕ) → rest ≡ [] → OnlyMarked marks rest → MarksShow marks []
only_marked-none marks rest e m = record {
  inside = λ k d h. absurd (omega arith);
  shows = λ y inside. false_from_ne_true (slice_index_or marks y false)
      (λ h. absurd (cc (m.only y inside h, e)));
}
