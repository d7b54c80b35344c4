-- A search over sets of members spells the words that can be read member by member.
use Rattle.std.proofs.Common.{◌≡◌, refl, sym, ◌∙◌, ap, subst, ℕ, suc, ◌+◌, ◌<◌, Bool, true, false, List, [], ◌∷◌, inl, inr, arith}
use Rattle.std.specs.Prelude.{⊤, ◌&&◌, ◌||◌, ◌⊎◌, Option, None, Some}
use Rattle.std.specs.List.{range_with_len}
use Rattle.pattern_search.specs.Words.{Includes, IsWord, word_ends, word_goes}
use Rattle.pattern_search.specs.Members.{Members, IsRun, run_stops, run_moves, ReadState, some_member, members_after, state_at, by_sets, SetsTell}
use Rattle.pattern_search.proofs.Inclusion.{among_filter, among_unfilter, among_range, among_unrange}

-- tests
abbrev Passes : Bool → Type 0
Passes true = ⊤
Passes false = ⊥

pub differ : false ≡ true → ⊥
differ is = subst Passes (sym is) tt

abbrev IsThere : {A : Type 0} → Option A → Type 0
IsThere None = ⊥
IsThere (Some a) = ⊤

pub or_left : (a b : Bool) → a ≡ true → (a || b) ≡ true
or_left true b is = refl
or_left false b is = absurd (differ is)

pub or_right : (a b : Bool) → b ≡ true → (a || b) ≡ true
or_right true b is = refl
or_right false b is = is

pub or_either : (a b : Bool) → (a || b) ≡ true → (a ≡ true) ⊎ (b ≡ true)
or_either true b is = inl refl
or_either false b is = inr is

pub some_of : (f : ℕ → Bool) (is : List ℕ) (i : ℕ) → Includes is i → f i ≡ true → some_member f is ≡ true
some_of f [] i h t = absurd h
some_of f (j ∷ js) i (inl is) t = or_left (f j) (some_member f js) (ap f is ∙ t)
some_of f (j ∷ js) i (inr h) t = or_right (f j) (some_member f js) (some_of f js i h t)

pub some_is : (f : ℕ → Bool) (is : List ℕ) → some_member f is ≡ true → (i : ℕ) × (Includes is i × (f i ≡ true))
some_is f [] t = absurd (differ t)
some_is f (j ∷ js) t = elim (or_either (f j) (some_member f js) t) [
  | inl k ↦ (j, (inl refl, k))
  | inr k ↦ (let found = some_is f js k in (found.0, (inr found.1.0, found.1.1)))
]

pub and_both : (a b : Bool) → a ≡ true → b ≡ true → (a && b) ≡ true
and_both true b s t = t
and_both false b s t = absurd (differ s)

pub and_left : (a b : Bool) → (a && b) ≡ true → a ≡ true
and_left true b t = refl
and_left false b t = absurd (differ t)

pub and_right : (a b : Bool) → (a && b) ≡ true → b ≡ true
and_right true b t = t
and_right false b t = absurd (differ t)

abbrev at : {P : Type 0} → P → List ℕ → ReadState P
at p is = record { letter = p; members = is }

at_some_some : {P : Type 0} (q : P) (is : List ℕ) (j : ℕ) → Includes is j → state_at q is ≡ Some (at q is)
at_some_some q [] j h = absurd h
at_some_some q (i ∷ is) j h = refl

abbrev from_some : {P : Type 0} → ReadState P → Option (ReadState P) → ReadState P
from_some d None = d
from_some d (Some e) = e

at_some_is : {P : Type 0} (q : P) (is : List ℕ) (e : ReadState P) → state_at q is ≡ Some e → at q is ≡ e
at_some_is q [] e same = absurd (subst IsThere (sym same) tt)
at_some_is q (i ∷ is) e same = ap (from_some e) same

module _ {P : Type 0} (m : Members P) where
  abbrev RunsFrom : ReadState P → List P → Type 0
  RunsFrom d w = (i : ℕ) × (Includes d.members i × IsRun m i d.letter w)

  moved : (d : ReadState P) (q : P) (rest : List P) → Includes (m.letters d.letter) q → RunsFrom (at q (members_after m d.members d.letter q)) rest → RunsFrom d (q ∷ rest)
  moved d q rest there found =
      let j : ℕ = found.0 in
      let both : Includes (range_with_len 0 (suc m.count)) j × ((m.can j q && some_member (λ i. m.moves i d.letter q j) d.members) ≡ true) =
      among_unfilter (λ j. m.can j q && some_member (λ i. m.moves i d.letter q j) d.members) (range_with_len 0 (suc m.count)) j found.1.0 in
      let from : (i : ℕ) × (Includes d.members i × (m.moves i d.letter q j ≡ true)) =
      some_is (λ i. m.moves i d.letter q j) d.members (and_right (m.can j q) (some_member (λ i. m.moves i d.letter q j) d.members) both.1) in
      let high : j < 0 + suc m.count = among_unrange 0 (suc m.count) j both.0 in
      (from.0, (from.1.0, run_moves from.0 j d.letter q rest there (omega (arith, high)) from.1.1 found.1.1))

  to_runs : (d : ReadState P) (w : List P) → IsWord (by_sets m) d w → RunsFrom d w
  to_runs _ _ (word_ends d q there is) =
      let found : (i : ℕ) × (Includes d.members i × (m.last i d.letter q ≡ true)) = some_is (λ i. m.last i d.letter q) d.members is in
      (found.0, (found.1.0, run_stops found.0 d.letter q there found.1.1))
  to_runs _ _ (word_goes d e q rest there is word) =
      moved d q rest there (subst (λ e. RunsFrom e rest) (sym (at_some_is q (members_after m d.members d.letter q) e is)) (to_runs e rest word))

  module _ (can : (i : ℕ) (p : P) (w : List P) → IsRun m i p w → m.can i p ≡ true) where
    from_runs : (is : List ℕ) (i : ℕ) (p : P) (w : List P) → Includes is i → IsRun m i p w → IsWord (by_sets m) (at p is) w
    from_runs is _ _ _ h (run_stops i p q there t) = word_ends (at p is) q there (some_of (λ i. m.last i p q) is i h t)
    from_runs is _ _ _ h (run_moves i j p q rest there low t run) =
        let test : (m.can j q && some_member (λ i. m.moves i p q j) is) ≡ true =
        and_both (m.can j q) (some_member (λ i. m.moves i p q j) is) (can j q rest run) (some_of (λ i. m.moves i p q j) is i h t) in
        let inside : Includes (members_after m is p q) j =
        among_filter (λ j. m.can j q && some_member (λ i. m.moves i p q j) is) (range_with_len 0 (suc m.count)) j (among_range 0 (suc m.count) j (omega arith) (omega (arith, low))) test in
        word_goes (at p is) (at q (members_after m is p q)) q rest there (at_some_some q (members_after m is p q) j inside) (from_runs (members_after m is p q) j q rest inside run)

pub sets : {P : Type 0} → SetsTell P
sets m can d w = (to_runs m d w, λ found. from_runs m can d.members found.0 d.letter w found.1.0 found.1.1)
