-- The lines of the refs of a way are its runs, as places of nodes.
use Rattle.std.proofs.Common.{◌≡◌, ℕ, ◌+◌, ◌<◌, ◌≤◌, ◌==◌, refl, sym, ◌∙◌, ap, subst, List, [], ◌∷◌, ◌++◌, length, map, ℤ, Bool, true, false, cond, inl, inr, arith, append_assoc}
use Rattle.std.specs.Prelude.{All, nat_le, filter}
use Rattle.std.specs.List.{enumerate_from, dedup, dedup_from}
use Rattle.std.specs.Ordering.{int_eq}
use Rattle.std.specs.Cmp.{signed_Decides, unsigned_Decides}
use Rattle.std.proofs.lemmas.Bool.{both_ways, cases_lt}
use Rattle.std.proofs.lemmas.List.Folds.{list_any_none}
use Rattle.std.proofs.lemmas.List.Sums.{fails_before_first, passes_at_first}
use Rattle.std.proofs.lemmas.List.{append-nil, map-append, length-map, length_push}
use Rattle.std.proofs.lemmas.List.Elements.{All-head, All-tail, All-cons, All-nil, All-append}
use Rattle.osm_model.specs.declared.nodes.OsmNode.{OsmNode}
use Rattle.road_pieces.specs.Runs.{has_node, lengthen, stretches, runs}
use Rattle.road_pieces.specs.Lines.{Line, place_of, id_at, no_node, ends_with, extend, closed, next_number, lines_from}

one_answer : (a b : Bool) → (a ≡ true → b ≡ true) → (b ≡ true → a ≡ true) → a ≡ b
one_answer true b h k = sym (h refl)
one_answer false true h k = k refl
one_answer false false h k = refl

-- an id whose node is there has a place, and the node there has that id
pub place_inside : (nodes : List OsmNode) (id : ℤ) → has_node nodes id ≡ true → place_of nodes id < length nodes
place_inside nodes id h =
    elim (cases_lt (place_of nodes id) (length nodes)) [
      | inl inside ↦ inside
      | inr past ↦ absurd (both_ways (has_node nodes id)
          (list_any_none (λ node. int_eq node.id id) nodes (λ k d l. fails_before_first (λ node. int_eq node.id id) nodes k d (omega arith))) h)
    ]

pub id_there : (nodes : List OsmNode) (id : ℤ) → has_node nodes id ≡ true → id_at nodes (place_of nodes id) ≡ id
id_there nodes id h =
    (signed_Decides (id_at nodes (place_of nodes id)) id).0 (passes_at_first (λ node. int_eq node.id id) nodes no_node (place_inside nodes id h))

-- two ids whose nodes are there are one where their places are
pub place_eq : (nodes : List OsmNode) (a b : ℤ) → has_node nodes a ≡ true → has_node nodes b ≡ true → (place_of nodes a == place_of nodes b) ≡ int_eq a b
place_eq nodes a b h k =
    one_answer (place_of nodes a == place_of nodes b) (int_eq a b)
    (λ e. (signed_Decides a b).1 (sym (id_there nodes a h) ∙ (ap (id_at nodes) ((unsigned_Decides _ _).0 e) ∙ id_there nodes b k)))
    (λ e. (unsigned_Decides _ _).1 (ap (place_of nodes) ((signed_Decides a b).0 e)))

-- the runs of refs in one pass, with the run that was begun before them
abbrev pub ends_at : ℤ → List ℤ → Bool
ends_at r [] = false
ends_at r (q ∷ []) = int_eq r q
ends_at r (q ∷ (s ∷ ss)) = ends_at r (s ∷ ss)

abbrev pub longer : List ℤ → ℤ → List ℤ
longer begun r = cond (ends_at r begun) begun (begun ++ r ∷ [])

abbrev pub kept : List ℤ → List (List ℤ)
kept begun = cond (nat_le 2 (length begun)) (begun ∷ []) []

abbrev pub runs_from : (ℤ → Bool) → List ℤ → List ℤ → List (List ℤ)
runs_from test begun [] = kept begun
runs_from test begun (r ∷ rs) = cond (test r) (runs_from test (longer begun r) rs) (kept begun ++ runs_from test [] rs)

-- one more element at the end of a list without equal neighbours
ends_at-cons : (r k : ℤ) (xs : List ℤ) (y : ℤ) (ys : List ℤ) → xs ≡ y ∷ ys → ends_at r (k ∷ xs) ≡ ends_at r xs
ends_at-cons r k xs y ys e = subst (λ l. ends_at r (k ∷ l) ≡ ends_at r l) (sym e) refl

longer-cons : (k r : ℤ) (xs : List ℤ) (y : ℤ) (ys : List ℤ) → xs ≡ y ∷ ys → longer (k ∷ xs) r ≡ k ∷ longer xs r
longer-cons k r xs y ys e =
    ap (λ b. cond b (k ∷ xs) (k ∷ (xs ++ r ∷ []))) (ends_at-cons r k xs y ys e) ∙ cond-cons (ends_at r xs)
  where
    cond-cons : (b : Bool) → cond b (k ∷ xs) (k ∷ (xs ++ r ∷ [])) ≡ k ∷ cond b xs (xs ++ r ∷ [])
    cond-cons true = refl
    cond-cons false = refl

deduped_some : (k : ℤ) (xs : List ℤ) → (y : ℤ) × ((ys : List ℤ) × (dedup_from int_eq k xs ≡ y ∷ ys))
deduped_some k [] = (k, ([], refl))
deduped_some k (x ∷ xs) = deduped_by (int_eq x k) (deduped_some k xs)
  where
    deduped_by : (b : Bool) → (y : ℤ) × ((ys : List ℤ) × (dedup_from int_eq k xs ≡ y ∷ ys)) → (y : ℤ) × ((ys : List ℤ) × (cond b (dedup_from int_eq k xs) (k ∷ dedup_from int_eq x xs) ≡ y ∷ ys))
    deduped_by true some = some
    deduped_by false some = (k, (dedup_from int_eq x xs, refl))

deduped_push : (k r : ℤ) (xs : List ℤ) → dedup_from int_eq k (xs ++ r ∷ []) ≡ longer (dedup_from int_eq k xs) r
deduped_push k r [] = refl
deduped_push k r (x ∷ xs) =
    let (y, (ys, e)) = deduped_some x xs in
    push_by y ys e (int_eq x k) (deduped_push k r xs) (deduped_push x r xs)
  where
    push_by : (y : ℤ) (ys : List ℤ) → dedup_from int_eq x xs ≡ y ∷ ys → (b : Bool) → dedup_from int_eq k (xs ++ r ∷ []) ≡ longer (dedup_from int_eq k xs) r → dedup_from int_eq x (xs ++ r ∷ []) ≡ longer (dedup_from int_eq x xs) r → cond b (dedup_from int_eq k (xs ++ r ∷ [])) (k ∷ dedup_from int_eq x (xs ++ r ∷ [])) ≡ longer (cond b (dedup_from int_eq k xs) (k ∷ dedup_from int_eq x xs)) r
    push_by y ys e true same other = same
    push_by y ys e false same other = ap (λ l. k ∷ l) other ∙ sym (longer-cons k r (dedup_from int_eq x xs) y ys e)

dedup_push : (r : ℤ) (xs : List ℤ) → dedup int_eq (xs ++ r ∷ []) ≡ longer (dedup int_eq xs) r
dedup_push r [] = refl
dedup_push r (x ∷ xs) = deduped_push x r xs

-- a list put before the first stretch
abbrev pub onto : List ℤ → List (List ℤ) → List (List ℤ)
onto s [] = s ∷ []
onto s (t ∷ ts) = (s ++ t) ∷ ts

pub onto_lengthen : (s : List ℤ) (r : ℤ) (l : List (List ℤ)) → onto s (lengthen r l) ≡ onto (s ++ r ∷ []) l
onto_lengthen s r [] = refl
onto_lengthen s r (t ∷ ts) = ap (λ u. u ∷ ts) (sym (append_assoc s (r ∷ []) t))

pub onto_nothing : (test : ℤ → Bool) (refs : List ℤ) → onto [] (stretches test refs) ≡ stretches test refs
onto_nothing test [] = refl
onto_nothing test (r ∷ refs) = nothing_by (test r) (stretches test refs)
  where
    lengthened : (l : List (List ℤ)) → onto [] (lengthen r l) ≡ lengthen r l
    lengthened [] = refl
    lengthened (t ∷ ts) = refl

    nothing_by : (b : Bool) (l : List (List ℤ)) → onto [] (cond b (lengthen r l) ([] ∷ l)) ≡ cond b (lengthen r l) ([] ∷ l)
    nothing_by true l = lengthened l
    nothing_by false l = refl

abbrev pub long_enough : List ℤ → Bool
long_enough run = nat_le 2 (length run)

abbrev pub runs_of : List (List ℤ) → List (List ℤ)
runs_of parts = filter long_enough (map (dedup int_eq) parts)

first_kept : (s : List ℤ) (ts : List (List ℤ)) → runs_of ((s ++ []) ∷ ts) ≡ kept (dedup int_eq s) ++ runs_of ts
first_kept s ts = ap (λ u. runs_of (u ∷ ts)) (append-nil s) ∙ kept_by (nat_le 2 (length (dedup int_eq s)))
  where
    kept_by : (b : Bool) → cond b (dedup int_eq s ∷ runs_of ts) (runs_of ts) ≡ cond b (dedup int_eq s ∷ []) [] ++ runs_of ts
    kept_by true = refl
    kept_by false = refl

-- the pass gives the runs of the stretches
runs_from_is : (test : ℤ → Bool) (refs s : List ℤ) → runs_from test (dedup int_eq s) refs ≡ runs_of (onto s (stretches test refs))
runs_from_is test [] s = sym (first_kept s [] ∙ append-nil (kept (dedup int_eq s)))
runs_from_is test (r ∷ refs) s =
    from_by (test r) (runs_from_is test refs (s ++ r ∷ [])) (runs_from_is test refs [])
  where
    from_by : (b : Bool) → runs_from test (dedup int_eq (s ++ r ∷ [])) refs ≡ runs_of (onto (s ++ r ∷ []) (stretches test refs)) → runs_from test [] refs ≡ runs_of (onto [] (stretches test refs)) → cond b (runs_from test (longer (dedup int_eq s) r) refs) (kept (dedup int_eq s) ++ runs_from test [] refs) ≡ runs_of (onto s (cond b (lengthen r (stretches test refs)) ([] ∷ stretches test refs)))
    from_by true more none =
        ap (λ l. runs_from test l refs) (sym (dedup_push r s)) ∙ (more ∙ ap runs_of (sym (onto_lengthen s r (stretches test refs))))
    from_by false more none =
        ap (λ l. kept (dedup int_eq s) ++ l) (none ∙ ap runs_of (onto_nothing test refs)) ∙ sym (first_kept s (stretches test refs))

pub runs_in_one_pass : (nodes : List OsmNode) (refs : List ℤ) → runs_from (has_node nodes) [] refs ≡ runs nodes refs
runs_in_one_pass nodes refs = runs_from_is (has_node nodes) refs [] ∙ ap runs_of (onto_nothing (has_node nodes) refs)

-- all nodes of a list of ids are there
abbrev pub AreThere : List OsmNode → List ℤ → Type 0
AreThere nodes ids = All (λ id. has_node nodes id ≡ true) ids

-- the line of a run with its number
abbrev pub line_at : List OsmNode → ℕ → ℕ × List ℤ → Line
line_at nodes way (number, run) = record { way = way; number = number; places = map (place_of nodes) run }

eq_sym : (a b : ℤ) → int_eq a b ≡ int_eq b a
eq_sym a b =
    one_answer (int_eq a b) (int_eq b a) (λ e. (signed_Decides b a).1 (sym ((signed_Decides a b).0 e)))
    (λ e. (signed_Decides a b).1 (sym ((signed_Decides b a).0 e)))

pub ends_alike : (nodes : List OsmNode) (begun : List ℤ) (r : ℤ) → AreThere nodes begun → has_node nodes r ≡ true → ends_with (place_of nodes r) (map (place_of nodes) begun) ≡ ends_at r begun
ends_alike nodes [] r there h = refl
ends_alike nodes (q ∷ []) r there h =
    place_eq nodes q r (All-head (λ id. has_node nodes id ≡ true) q [] there) h ∙ eq_sym q r
ends_alike nodes (q ∷ (s ∷ begun)) r there h =
    ends_alike nodes (s ∷ begun) r (All-tail (λ id. has_node nodes id ≡ true) q (s ∷ begun) there) h

longer_there : (nodes : List OsmNode) (begun : List ℤ) (r : ℤ) → AreThere nodes begun → has_node nodes r ≡ true → AreThere nodes (longer begun r)
longer_there nodes begun r there h = there_by (ends_at r begun)
  where
    there_by : (b : Bool) → AreThere nodes (cond b begun (begun ++ r ∷ []))
    there_by true = there
    there_by false =
        All-append (λ id. has_node nodes id ≡ true) begun (r ∷ []) there (All-cons (λ id. has_node nodes id ≡ true) r [] h (All-nil (λ id. has_node nodes id ≡ true)))

longer_places : (nodes : List OsmNode) (begun : List ℤ) (r : ℤ) → AreThere nodes begun → has_node nodes r ≡ true → extend (map (place_of nodes) begun) (place_of nodes r) ≡ map (place_of nodes) (longer begun r)
longer_places nodes begun r there h =
    ap (λ b. cond b (map (place_of nodes) begun) (map (place_of nodes) begun ++ place_of nodes r ∷ [])) (ends_alike nodes begun r there h) ∙ places_by (ends_at r begun)
  where
    places_by : (b : Bool) → cond b (map (place_of nodes) begun) (map (place_of nodes) begun ++ place_of nodes r ∷ []) ≡ map (place_of nodes) (cond b begun (begun ++ r ∷ []))
    places_by true = refl
    places_by false = sym (map-append (place_of nodes) begun (r ∷ []))

closed_is : (nodes : List OsmNode) (way number : ℕ) (begun : List ℤ) → closed way number (map (place_of nodes) begun) ≡ map (line_at nodes way) (enumerate_from number (kept begun))
closed_is nodes way number begun =
    ap (λ n. cond (nat_le 2 n) (line_at nodes way (number, begun) ∷ []) []) (length-map begun (place_of nodes)) ∙ is_by (nat_le 2 (length begun))
  where
    is_by : (b : Bool) → cond b (line_at nodes way (number, begun) ∷ []) [] ≡ map (line_at nodes way) (enumerate_from number (cond b (begun ∷ []) []))
    is_by true = refl
    is_by false = refl

numbered : (nodes : List OsmNode) (number : ℕ) (begun : List ℤ) (more : List (List ℤ)) → enumerate_from number (kept begun ++ more) ≡ enumerate_from number (kept begun) ++ enumerate_from (next_number number (map (place_of nodes) begun)) more
numbered nodes number begun more =
    numbered_by (nat_le 2 (length begun)) ∙ ap (λ n. enumerate_from number (kept begun) ++ enumerate_from (cond (nat_le 2 n) (number + 1) number) more) (sym (length-map begun (place_of nodes)))
  where
    numbered_by : (b : Bool) → enumerate_from number (cond b (begun ∷ []) [] ++ more) ≡ enumerate_from number (cond b (begun ∷ []) []) ++ enumerate_from (cond b (number + 1) number) more
    numbered_by true = refl
    numbered_by false = refl

-- the lines that the pass over places gives are those of the runs
lines_of_runs : (nodes : List OsmNode) (way number : ℕ) (refs begun : List ℤ) → AreThere nodes begun → lines_from nodes way number (map (place_of nodes) begun) refs ≡ map (line_at nodes way) (enumerate_from number (runs_from (has_node nodes) begun refs))
lines_of_runs nodes way number [] begun there = closed_is nodes way number begun
lines_of_runs nodes way number (r ∷ refs) begun there =
    lines_by (has_node nodes r) refl (λ h. lines_of_runs nodes way number refs (longer begun r) (longer_there nodes begun r there h))
    (lines_of_runs nodes way (next_number number (map (place_of nodes) begun)) refs [] (All-nil (λ id. has_node nodes id ≡ true)))
  where
    lines_by : (b : Bool) → has_node nodes r ≡ b → (has_node nodes r ≡ true → lines_from nodes way number (map (place_of nodes) (longer begun r)) refs ≡ map (line_at nodes way) (enumerate_from number (runs_from (has_node nodes) (longer begun r) refs))) → lines_from nodes way (next_number number (map (place_of nodes) begun)) [] refs ≡ map (line_at nodes way) (enumerate_from (next_number number (map (place_of nodes) begun)) (runs_from (has_node nodes) [] refs)) → cond b (lines_from nodes way number (extend (map (place_of nodes) begun) (place_of nodes r)) refs) (closed way number (map (place_of nodes) begun) ++ lines_from nodes way (next_number number (map (place_of nodes) begun)) [] refs) ≡ map (line_at nodes way) (enumerate_from number (cond b (runs_from (has_node nodes) (longer begun r) refs) (kept begun ++ runs_from (has_node nodes) [] refs)))
    lines_by true h goes stops =
        ap (λ l. lines_from nodes way number l refs) (longer_places nodes begun r there h) ∙ goes h
    lines_by false h goes stops =
        ap (λ l. l ++ lines_from nodes way (next_number number (map (place_of nodes) begun)) [] refs) (closed_is nodes way number begun) ∙ (ap (λ l. map (line_at nodes way) (enumerate_from number (kept begun)) ++ l) stops ∙ (sym (map-append (line_at nodes way) (enumerate_from number (kept begun)) (enumerate_from (next_number number (map (place_of nodes) begun)) (runs_from (has_node nodes) [] refs))) ∙ ap (map (line_at nodes way)) (sym (numbered nodes number begun (runs_from (has_node nodes) [] refs)))))

pub way_lines : (nodes : List OsmNode) (way : ℕ) (refs : List ℤ) → lines_from nodes way 0 [] refs ≡ map (line_at nodes way) (enumerate_from 0 (runs nodes refs))
way_lines nodes way refs =
    lines_of_runs nodes way 0 refs [] (All-nil (λ id. has_node nodes id ≡ true)) ∙ ap (λ rs. map (line_at nodes way) (enumerate_from 0 rs)) (runs_in_one_pass nodes refs)

-- the nodes of runs are there, and no run has more nodes than there are refs
pub record IsRunOf (nodes : List OsmNode) (limit : ℕ) (run : List ℤ) : Type 0 where
  pub there : AreThere nodes run
  pub short : length run ≤ limit

kept_sound : (nodes : List OsmNode) (limit : ℕ) (begun : List ℤ) → AreThere nodes begun → length begun ≤ limit → All (IsRunOf nodes limit) (kept begun)
kept_sound nodes limit begun there h = sound_by (nat_le 2 (length begun))
  where
    sound_by : (b : Bool) → All (IsRunOf nodes limit) (cond b (begun ∷ []) [])
    sound_by true =
        All-cons (IsRunOf nodes limit) begun [] (record { there = there; short = h }) (All-nil (IsRunOf nodes limit))
    sound_by false = All-nil (IsRunOf nodes limit)

pub longer_short : (begun : List ℤ) (r : ℤ) → length (longer begun r) ≤ length begun + 1
longer_short begun r = short_by (ends_at r begun)
  where
    short_by : (b : Bool) → length (cond b begun (begun ++ r ∷ [])) ≤ length begun + 1
    short_by true = omega arith
    short_by false = omega (arith, length_push begun r)

sound_from : (nodes : List OsmNode) (limit : ℕ) (refs begun : List ℤ) → AreThere nodes begun → length begun + length refs ≤ limit → All (IsRunOf nodes limit) (runs_from (has_node nodes) begun refs)
sound_from nodes limit [] begun there h = kept_sound nodes limit begun there (omega arith)
sound_from nodes limit (r ∷ refs) begun there h =
    sound_by (has_node nodes r) refl
    (λ k. sound_from nodes limit refs (longer begun r) (longer_there nodes begun r there k) (omega (arith, longer_short begun r)))
    (sound_from nodes limit refs [] (All-nil (λ id. has_node nodes id ≡ true)) (omega arith))
  where
    sound_by : (b : Bool) → has_node nodes r ≡ b → (has_node nodes r ≡ true → All (IsRunOf nodes limit) (runs_from (has_node nodes) (longer begun r) refs)) → All (IsRunOf nodes limit) (runs_from (has_node nodes) [] refs) → All (IsRunOf nodes limit) (cond b (runs_from (has_node nodes) (longer begun r) refs) (kept begun ++ runs_from (has_node nodes) [] refs))
    sound_by true k goes stops = goes k
    sound_by false k goes stops =
        All-append (IsRunOf nodes limit) (kept begun) (runs_from (has_node nodes) [] refs) (kept_sound nodes limit begun there (omega arith)) stops

pub runs_sound : (nodes : List OsmNode) (refs : List ℤ) → All (IsRunOf nodes (length refs)) (runs nodes refs)
runs_sound nodes refs =
    subst (All (IsRunOf nodes (length refs))) (runs_in_one_pass nodes refs)
    (sound_from nodes (length refs) refs [] (All-nil (λ id. has_node nodes id ≡ true)) (omega arith))
