-- Where entries start, and their marks.
use Rattle.std.proofs.Common.{◌≡◌, ℕ, zero, suc, ◌+◌, ◌*◌, ◌/◌, ◌%◌, ◌<◌, ◌≤◌, Bool, true, false, cond, eqb, ltb, ◌&&◌, ◌||◌, List, [], ◌∷◌, ◌++◌, length, take, get_or, set, replicate, refl, sym, ap, ◌∙◌, arith, inl, inr}
use Rattle.std.proofs.Common.{get_or-set_same, get_or-set_other}
use Rattle.std.specs.List.{flat_map}
use Rattle.std.specs.Int.{w32, w64, cast_unsigned}
use Rattle.std.proofs.lemmas.Bool.{eq-eqb, ne_eqb, cases_eq, lt-ltb}
use Rattle.std.proofs.lemmas.List.{length-append, length-set}
use Rattle.std.proofs.lemmas.List.Concat.{flat_map-cons}
use Rattle.fixed_geo.specs.declared.points.Point.{Point}
use Rattle.section_grammar.specs.WordBytes.{word_bytes, half_bytes}
use Rattle.section_grammar.proofs.WordLaws.{word_length, half_length, halves_bytes-length}
use Rattle.edge_info.specs.declared.infos.Info.{Info}
use Rattle.edge_info.specs.Entries.{key_bytes, point_bytes, info_bytes, infos_bytes, starts_from, starts_of, starts_at}
use Rattle.edge_info.specs.Starts.{is_marked, MarkStarts, with_mark}

point_length : (p : Point) → length (point_bytes p) ≡ 8
unfolding point_bytes
point_length p = omega (arith, length-append (half_bytes (cast_unsigned w32 p.lat)) (half_bytes (cast_unsigned w32 p.lon)), half_length (cast_unsigned w32 p.lat), half_length (cast_unsigned w32 p.lon))

points_length : (ps : List Point) → length (flat_map point_bytes ps) ≡ 8 * length ps
points_length [] = refl
points_length (p ∷ ps) = ap length (flat_map-cons point_bytes p ps) ∙ omega (arith, length-append (point_bytes p) (flat_map point_bytes ps), point_length p, points_length ps)

pub info_length : (info : Info) → length (info_bytes info) ≡ 24 + 8 * length info.shape + 4 * length info.texts
unfolding info_bytes key_bytes
info_length info =
    let way = word_bytes (cast_unsigned w64 info.key.way) in
    let run = half_bytes info.key.run in
    let piece = half_bytes info.key.piece in
    let points = flat_map point_bytes info.shape in
    let names = flat_map half_bytes info.texts in
    let np = half_bytes (length info.shape) in
    let nn = half_bytes (length info.texts) in
    omega (
      arith,
      length-append (way ++ (run ++ piece)) ((np ++ points) ++ (nn ++ names)),
      length-append way (run ++ piece),
      length-append run piece,
      length-append (np ++ points) (nn ++ names),
      length-append np points,
      length-append nn names,
      word_length (cast_unsigned w64 info.key.way),
      half_length info.key.run,
      half_length info.key.piece,
      half_length (length info.shape),
      half_length (length info.texts),
      points_length info.shape,
      halves_bytes-length info.texts,
    )

pub infos_cons : (x : Info) (xs : List Info) → length (infos_bytes (x ∷ xs)) ≡ length (info_bytes x) + length (infos_bytes xs)
infos_cons x xs = ap length (flat_map-cons info_bytes x xs) ∙ length-append (info_bytes x) (infos_bytes xs)

-- one entry more, of those that stand in a list
pub size_step : (infos : List Info) (i : ℕ) (x : Info) → i < length infos → x ≡ get_or infos i x → length (infos_bytes (take (i + 1) infos)) ≡ length (infos_bytes (take i infos)) + length (info_bytes x)
size_step [] i x lt e = absurd (omega arith)
size_step (y ∷ ys) zero x lt e = let z = ap (λ i. length (info_bytes i)) e in omega (arith, infos_cons y [], z)
size_step (y ∷ ys) (suc i) x lt e =
    let k : suc i + 1 ≡ suc (i + 1) = omega arith in
    let more = size_step ys i x (omega arith) e in
    rw k (omega (arith, infos_cons y (take (i + 1) ys), infos_cons y (take i ys), more))

starts_next : (at : ℕ) (infos : List Info) (i : ℕ) → i < length infos → starts_from at (take (i + 1) infos) ≡ starts_from at (take i infos) ++ (at + length (infos_bytes (take i infos))) ∷ []
starts_next at [] i lt = absurd (omega arith)
starts_next at (y ∷ ys) zero lt = let k : at ≡ at + 0 = omega arith in ap (λ n. n ∷ []) k
starts_next at (y ∷ ys) (suc i) lt =
    let k : suc i + 1 ≡ suc (i + 1) = omega arith in
    let n : at + length (info_bytes y) + length (infos_bytes (take i ys)) ≡ at + length (infos_bytes (y ∷ take i ys)) = omega (arith, infos_cons y (take i ys)) in
    rw k (ap (λ t. at ∷ t) (starts_next (at + length (info_bytes y)) ys i (omega arith) ∙ ap (λ m. starts_from (at + length (info_bytes y)) (take i ys) ++ m ∷ []) n))

pub starts_step : (infos : List Info) (i at : ℕ) → i < length infos → at ≡ length (infos_bytes (take i infos)) → starts_of (take (i + 1) infos) ≡ starts_of (take i infos) ++ at ∷ []
starts_step infos i at lt e = let k : 0 + length (infos_bytes (take i infos)) ≡ at = omega (arith, e) in starts_next 0 infos i lt ∙ ap (λ n. starts_of (take i infos) ++ n ∷ []) k

-- the part is no longer than the whole
pub size_le : (infos : List Info) (i : ℕ) → length (infos_bytes (take i infos)) ≤ length (infos_bytes infos)
size_le infos zero = omega arith
size_le [] (suc i) = omega arith
size_le (y ∷ ys) (suc i) = let more = size_le ys i in omega (arith, infos_cons y (take i ys), infos_cons y ys, more)

-- ---- marks

or_false : (b : Bool) → (b || false) ≡ b
or_false true = refl
or_false false = refl

or_assoc : (a b d : Bool) → (a || (b || d)) ≡ ((a || b) || d)
or_assoc true b d = refl
or_assoc false b d = refl

pub starts_at-push : (starts : List ℕ) (start at : ℕ) → starts_at (starts ++ start ∷ []) at ≡ (starts_at starts at || eqb at start)
starts_at-push [] start at = or_false (eqb at start)
starts_at-push (s ∷ ss) start at = ap (λ b. eqb at s || b) (starts_at-push ss start at) ∙ or_assoc (eqb at s) (starts_at ss at) (eqb at start)

by_fours : (infos : List Info) → length (infos_bytes infos) % 4 ≡ 0
by_fours [] = refl
by_fours (x ∷ xs) = omega (arith, infos_cons x xs, info_length x, by_fours xs)

pub part_by_fours : (infos : List Info) (i at : ℕ) → at ≡ length (infos_bytes (take i infos)) → at % 4 ≡ 0
part_by_fours infos i at e = omega (arith, by_fours (take i infos), e)

-- no mark is set
none_marked : (count k : ℕ) → get_or (replicate count false) k false ≡ false
none_marked zero k = refl
none_marked (suc count) zero = refl
none_marked (suc count) (suc k) = none_marked count k

and_none : (b d : Bool) → ((b && d) && false) ≡ false
and_none true true = refl
and_none true false = refl
and_none false d = refl

pub marks_none : (count : ℕ) (marks : List Bool) → marks ≡ replicate count false → MarkStarts marks []
marks_none count marks e = record {
  each = λ at. sym (ap (λ b. (eqb (at % 4) 0 && ltb (at / 4) (length marks)) && b) (ap (λ m. get_or m (at / 4) false) e ∙ none_marked count (at / 4)) ∙ and_none (eqb (at % 4) 0) (ltb (at / 4) (length marks)));
}

pub length-with_mark : (marks : List Bool) (at : ℕ) → length (with_mark marks at) ≡ length marks
unfolding with_mark
length-with_mark marks at = elim (ltb (at / 4) (length marks)) as (λ b. length (cond b (set marks (at / 4) true) marks) ≡ length marks) [ true ↦ length-set marks (at / 4) true | false ↦ refl ]

marked_here : (marks : List Bool) (start at : ℕ) → start / 4 < length marks → start % 4 ≡ 0 → at ≡ start → is_marked (with_mark marks start) at ≡ true
unfolding with_mark
marked_here marks start at lt by same =
    let inside : at / 4 < length (set marks (start / 4) true) = omega (arith, same, lt, length-set marks (start / 4) true) in
    let zero_rest : at % 4 ≡ 0 = omega (arith, same, by) in
    let read : get_or (set marks (start / 4) true) (at / 4) false ≡ true = ap (λ k. get_or (set marks (start / 4) true) (k / 4) false) same ∙ get_or-set_same marks (start / 4) true false lt in
    rw (lt-ltb _ _ lt, zero_rest, lt-ltb _ _ inside, read) refl

marked_else : (marks : List Bool) (start at : ℕ) → start / 4 < length marks → start % 4 ≡ 0 → (at ≡ start → ⊥) → is_marked (with_mark marks start) at ≡ is_marked marks at
unfolding with_mark
marked_else marks start at lt by other =
    let made : with_mark marks start ≡ set marks (start / 4) true = ap (λ b. cond b (set marks (start / 4) true) marks) (lt-ltb _ _ lt) in
    ap (λ m. is_marked m at) made ∙ (elim (cases_eq (at % 4) 0) [
      | inl four ↦ (
          let away : at / 4 ≡ start / 4 → ⊥ = λ e. other (omega (arith, e, four, by)) in
          ap (λ n. (eqb (at % 4) 0 && ltb (at / 4) n) && get_or (set marks (start / 4) true) (at / 4) false) (length-set marks (start / 4) true)
          ∙ ap (λ b. (eqb (at % 4) 0 && ltb (at / 4) (length marks)) && b) (get_or-set_other marks (start / 4) (at / 4) true false away)
          )
      | inr odd ↦ rw (ne_eqb (at % 4) 0 odd) refl
    ])

or_true : (b : Bool) → (b || true) ≡ true
or_true true = refl
or_true false = refl

pub marks_step : (marks : List Bool) (starts : List ℕ) (start : ℕ) → start / 4 < length marks → start % 4 ≡ 0 → MarkStarts marks starts → MarkStarts (with_mark marks start) (starts ++ start ∷ [])
marks_step marks starts start lt by had = record {
  each = λ at. starts_at-push starts start at ∙ (elim (cases_eq at start) [
    | inl same ↦ ap (λ b. starts_at starts at || b) (eq-eqb at start same) ∙ (or_true (starts_at starts at) ∙ sym (marked_here marks start at lt by same))
    | inr other ↦ ap (λ b. starts_at starts at || b) (ne_eqb at start other) ∙ (or_false (starts_at starts at) ∙ (had.each at ∙ sym (marked_else marks start at lt by other)))
  ]);
}
