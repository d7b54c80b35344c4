-- What is read of a tile is the same whatever stands in the fields that are written.
use Rattle.std.proofs.Common.{◌≡◌, ◌∙◌, ℕ, zero, suc, ◌+◌, ◌*◌, refl, sym, ap, subst, ℤ, List, [], ◌∷◌, length, map, get_or, Bool, cond, ltb, Some, None, arith}
use Rattle.std.specs.Prelude.{position, ◌==◌, ◌||◌, ◌<ℤ◌}
use Rattle.std.specs.Int.{from_bool}
use Rattle.std.specs.List.{position_or_len, list_any}
use Rattle.std.specs.Ordering.{int_eq}
use Rattle.std.proofs.Math.ListN.{get_or-map}
use Rattle.std.proofs.lemmas.List.{length-map}
use Rattle.std.proofs.lemmas.List.Recursion.{is_position_or_len}
use Rattle.osm_model.specs.Extract.{IdsRise}
use Rattle.road_pieces.specs.declared.rows.Piece.{Piece}
use Rattle.road_walks.specs.Orders.{number_of_bits}
use Rattle.work_tile.specs.declared.edge_rows.WorkEdge.{WorkEdge}
use Rattle.work_tile.specs.WorkRows.{WorkNode}
use Rattle.enhancer.specs.ReadableRows.{plain_edge, plain_node}
use Rattle.enhancer.specs.Graph.{ends_but, end_of}
use Rattle.enhancer.specs.NamesInCommon.{is_named_alike, alike_bits}

-- the first that passes, among images that pass alike
first_of : {X : Type 0} → (X → Bool) → List X → ℕ
first_of test [] = 0
first_of test (x ∷ xs) = cond (test x) 0 (1 + first_of test xs)

first_is : {X : Type 0} (test : X → Bool) (xs : List X) → first_of test xs ≡ position_or_len test xs
unfolding first_of
first_is test xs = is_position_or_len (first_of test) test refl (λ x ys. refl) xs

first_same : {X : Type 0} (f : X → X) (test : X → Bool) → ((x : X) → test (f x) ≡ test x) → (xs : List X) → first_of test (map f xs) ≡ first_of test xs
unfolding first_of
first_same f test same [] = refl
first_same f test same (x ∷ xs) =
    ap (λ n. cond (test (f x)) 0 (1 + n)) (first_same f test same xs) ∙ ap (λ b. cond b 0 (1 + first_of test xs)) (same x)

first-map : {X : Type 0} (f : X → X) (test : X → Bool) → ((x : X) → test (f x) ≡ test x) → (xs : List X) → position_or_len test (map f xs) ≡ position_or_len test xs
first-map f test same xs = sym (first_is test (map f xs)) ∙ first_same f test same xs ∙ first_is test xs

pub position-map : {X : Type 0} (f : X → X) (test : X → Bool) → ((x : X) → test (f x) ≡ test x) → (xs : List X) → position test (map f xs) ≡ position test xs
position-map f test same xs =
    ap (λ n. cond (ltb n (length (map f xs))) (Some n) None) (first-map f test same xs)
    ∙ ap (λ n. cond (ltb (position_or_len test xs) n) (Some (position_or_len test xs)) None) (length-map xs f)

pub node_place-plain : (nodes : List WorkNode) (osm : ℤ) → position (λ n. int_eq n.osm osm) (map plain_node nodes) ≡ position (λ n. int_eq n.osm osm) nodes
node_place-plain nodes osm = position-map plain_node (λ n. int_eq n.osm osm) (λ n. refl) nodes

pub rise-plain : (nodes : List WorkNode) → IdsRise (λ (n : WorkNode). n.osm) (map plain_node nodes) → IdsRise (λ (n : WorkNode). n.osm) nodes
rise-plain nodes rise = λ i j d below inside.
    let first = get_or-map plain_node nodes i d in
    let second = get_or-map plain_node nodes j d in
    let r = rise i j (plain_node d) below (omega (arith, inside, length-map nodes plain_node)) in
    subst (λ n. n.osm <ℤ (get_or nodes j d).osm) first (subst (λ n. (get_or (map plain_node nodes) i (plain_node d)).osm <ℤ n.osm) second r)

pub ends-plain : (left : ℕ) (es : List WorkEdge) → ends_but left (map plain_edge es) ≡ ends_but left es
ends-plain left [] = refl
ends-plain left (e ∷ es) = ap (λ ends. cond (e.place == left) ends (end_of e ∷ ends)) (ends-plain left es)

any-map : {X : Type 0} (f : X → X) (test : X → Bool) → ((x : X) → test (f x) ≡ test x) → (xs : List X) → list_any test (map f xs) ≡ list_any test xs
any-map f test same [] = refl
any-map f test same (x ∷ xs) = ap (λ b. test (f x) || b) (any-map f test same xs) ∙ ap (λ b. b || list_any test xs) (same x)

bits-same : (f g : ℕ → Bool) → ((k : ℕ) → f k ≡ g k) → (i n : ℕ) → number_of_bits f i n ≡ number_of_bits g i n
bits-same f g same i zero = refl
bits-same f g same i (suc n) =
    ap (λ m. from_bool (f i) + 2 * m) (bits-same f g same (suc i) n) ∙ ap (λ b. from_bool b + 2 * number_of_bits g (suc i) n) (same i)

pub alike-plain : (pieces : List Piece) (place : ℕ) (es : List WorkEdge) → alike_bits pieces place (map plain_edge es) ≡ alike_bits pieces place es
unfolding alike_bits
alike-plain pieces place es =
    bits-same (is_named_alike pieces place (map plain_edge es)) (is_named_alike pieces place es) (λ k. any-map plain_edge _ (λ e. refl) es) 0 8

pub alike-none : (pieces : List Piece) (place : ℕ) → alike_bits pieces place [] ≡ 0
unfolding alike_bits
alike-none pieces place = refl
