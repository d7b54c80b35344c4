-- Directed edges by their places: each piece has two, forward first.
use Rattle.std.proofs.Common.{◌≡◌, ℕ, ℤ, zero, suc, ◌+◌, ◌-◌, ◌*◌, ◌/◌, ◌%◌, ◌<◌, refl, sym, ◌∙◌, ap, List, [], ◌∷◌, ◌++◌, map, flat_map, length, get_or, true, false, arith}
use Rattle.std.specs.List.{enumerate_from}
use Rattle.std.proofs.lemmas.List.{get_or-map, length-map, get_or_default}
use Rattle.std.proofs.lemmas.List.Concat.{flat_map-cons}
use Rattle.road_pieces.specs.declared.rows.Junction.{Junction}
use Rattle.road_pieces.specs.declared.rows.Piece.{Piece}
use Rattle.edge_builder.specs.BaseRows.{DirectedRow, both_rows, directed_rows, row_start, junction_tile, junction_place, start_places, IsJoined}
use Rattle.edge_builder.specs.BaseTiles.{edge_row, base_edge, tile_at, IsPlanned}

-- the directed edges of pieces that are numbered from n
abbrev rows_from : ℕ → List Piece → List DirectedRow
rows_from n ps = flat_map both_rows (enumerate_from n ps)

length_from : (n : ℕ) (ps : List Piece) → length (rows_from n ps) ≡ 2 * length ps
length_from n [] = refl
length_from n (p ∷ ps) = let r = length_from (n + 1) ps in ap length (flat_map-cons both_rows (n, p) (enumerate_from (n + 1) ps)) ∙ omega (arith, r)

pub rows_length : (ps : List Piece) → length (directed_rows ps) ≡ 2 * length ps
rows_length ps = length_from 0 ps

forward_from : (n : ℕ) (ps : List Piece) (k : ℕ) (e : Piece) (d : DirectedRow) → k < length ps → get_or (rows_from n ps) (2 * k) d ≡ record { piece = get_or ps k e; place = n + k; forward = true }
forward_from n [] k e d h = absurd (omega (arith, h))
forward_from n (p ∷ ps) zero e d h =
    ap (λ es. get_or es 0 d) (flat_map-cons both_rows (n, p) (enumerate_from (n + 1) ps))
    ∙ ap (λ m. record { piece = p; place = m; forward = true }) {x = n} {y = n + 0} (omega arith)
forward_from n (p ∷ ps) (suc k) e d h =
    ap (λ es. get_or es (2 * suc k) d) (flat_map-cons both_rows (n, p) (enumerate_from (n + 1) ps))
    ∙ (ap (λ m. get_or (both_rows (n, p) ++ rows_from (n + 1) ps) m d) {x = 2 * suc k} {y = suc (suc (2 * k))} (omega arith)
    ∙ (forward_from (n + 1) ps k e d (omega (arith, h)) ∙ ap (λ m. record { piece = get_or ps k e; place = m; forward = true }) {x = n + 1 + k} {y = n + suc k} (omega arith)))

pub forward_row : (ps : List Piece) (k : ℕ) (e : Piece) (d : DirectedRow) → k < length ps → get_or (directed_rows ps) (2 * k) d ≡ record { piece = get_or ps k e; place = k; forward = true }
forward_row ps k e d h =
    forward_from 0 ps k e d h ∙ ap (λ m. record { piece = get_or ps k e; place = m; forward = true }) {x = 0 + k} {y = k} (omega arith)

backward_from : (n : ℕ) (ps : List Piece) (k : ℕ) (e : Piece) (d : DirectedRow) → k < length ps → get_or (rows_from n ps) (2 * k + 1) d ≡ record { piece = get_or ps k e; place = n + k; forward = false }
backward_from n [] k e d h = absurd (omega (arith, h))
backward_from n (p ∷ ps) zero e d h =
    ap (λ es. get_or es 1 d) (flat_map-cons both_rows (n, p) (enumerate_from (n + 1) ps))
    ∙ ap (λ m. record { piece = p; place = m; forward = false }) {x = n} {y = n + 0} (omega arith)
backward_from n (p ∷ ps) (suc k) e d h =
    ap (λ es. get_or es (2 * suc k + 1) d) (flat_map-cons both_rows (n, p) (enumerate_from (n + 1) ps))
    ∙ (ap (λ m. get_or (both_rows (n, p) ++ rows_from (n + 1) ps) m d) {x = 2 * suc k + 1} {y = suc (suc (2 * k + 1))} (omega arith)
    ∙ (backward_from (n + 1) ps k e d (omega (arith, h)) ∙ ap (λ m. record { piece = get_or ps k e; place = m; forward = false }) {x = n + 1 + k} {y = n + suc k} (omega arith)))

pub backward_row : (ps : List Piece) (k : ℕ) (e : Piece) (d : DirectedRow) → k < length ps → get_or (directed_rows ps) (2 * k + 1) d ≡ record { piece = get_or ps k e; place = k; forward = false }
backward_row ps k e d h =
    backward_from 0 ps k e d h ∙ ap (λ m. record { piece = get_or ps k e; place = m; forward = false }) {x = 0 + k} {y = k} (omega arith)

pub starts_length : (js : List Junction) (ps : List Piece) → length (start_places js ps) ≡ 2 * length ps
starts_length js ps = length-map (directed_rows ps) (λ e. junction_place js (row_start e)) ∙ rows_length ps

pub forward_start : (js : List Junction) (ps : List Piece) (k : ℕ) (e : Piece) (d : ℕ) → k < length ps → get_or (start_places js ps) (2 * k) d ≡ junction_place js (get_or ps k e).start
forward_start js ps k e d h =
    let there : DirectedRow = record { piece = e; place = k; forward = true } in
    get_or-map (λ r. junction_place js (row_start r)) (directed_rows ps) (2 * k) there d (omega (arith, rows_length ps, h))
    ∙ ap (λ r. junction_place js (row_start r)) (forward_row ps k e there h)

pub backward_start : (js : List Junction) (ps : List Piece) (k : ℕ) (e : Piece) (d : ℕ) → k < length ps → get_or (start_places js ps) (2 * k + 1) d ≡ junction_place js (get_or ps k e).end
backward_start js ps k e d h =
    let there : DirectedRow = record { piece = e; place = k; forward = true } in
    get_or-map (λ r. junction_place js (row_start r)) (directed_rows ps) (2 * k + 1) there d (omega (arith, rows_length ps, h))
    ∙ ap (λ r. junction_place js (row_start r)) (backward_row ps k e there h)

pub planned_lengths : (js : List Junction) (ps : List Piece) (tiles starts : List ℕ) → IsPlanned js ps tiles starts → (length tiles ≡ length js) × (length starts ≡ 2 * length ps)
planned_lengths js ps tiles starts planned = (ap length planned.tiles_are ∙ length-map js junction_tile, ap length planned.starts_are ∙ starts_length js ps)

-- the end of an edge is where its reverse starts
pub forward_end : (js : List Junction) (ps : List Piece) (tiles starts : List ℕ) (place end d : ℕ) (e : Piece) → IsPlanned js ps tiles starts → place < 2 * length ps → place % 2 ≡ 0 → end ≡ get_or starts (place + 1) d → end ≡ junction_place js (get_or ps (place / 2) e).end
forward_end js ps tiles starts place end d e planned h even is =
    is ∙ (ap (λ ks. get_or ks (place + 1) d) planned.starts_are ∙ (ap (λ n. get_or (start_places js ps) n d) {x = place + 1} {y = 2 * (place / 2) + 1} (omega (arith, even)) ∙ backward_start js ps (place / 2) e d (omega (arith, h))))

pub backward_end : (js : List Junction) (ps : List Piece) (tiles starts : List ℕ) (place end d : ℕ) (e : Piece) → IsPlanned js ps tiles starts → place < 2 * length ps → (place % 2 ≡ 0 → ⊥) → end ≡ get_or starts (place - 1) d → end ≡ junction_place js (get_or ps (place / 2) e).start
backward_end js ps tiles starts place end d e planned h odd is =
    is ∙ (ap (λ ks. get_or ks (place - 1) d) planned.starts_are ∙ (ap (λ n. get_or (start_places js ps) n d) {x = place - 1} {y = 2 * (place / 2)} (omega (arith, odd)) ∙ forward_start js ps (place / 2) e d (omega (arith, h))))

pub forward_inside : (js : List Junction) (ps : List Piece) (tiles starts : List ℕ) (k end : ℕ) (e : Piece) → IsPlanned js ps tiles starts → k < length ps → end ≡ junction_place js (get_or ps k e).end → end < length tiles
forward_inside js ps tiles starts k end e planned h is =
    let joined : IsJoined js (get_or ps k e) = planned.roads.joined k e h in
    let lengths = planned_lengths js ps tiles starts planned in
    omega (arith, is, joined.end, lengths.0)

pub backward_inside : (js : List Junction) (ps : List Piece) (tiles starts : List ℕ) (k end : ℕ) (e : Piece) → IsPlanned js ps tiles starts → k < length ps → end ≡ junction_place js (get_or ps k e).start → end < length tiles
backward_inside js ps tiles starts k end e planned h is =
    let joined : IsJoined js (get_or ps k e) = planned.roads.joined k e h in
    let lengths = planned_lengths js ps tiles starts planned in
    omega (arith, is, joined.start, lengths.0)

tile_there : (js : List Junction) (tiles : List ℕ) (end tile : ℕ) (n : ℤ) → tiles ≡ map junction_tile js → end ≡ junction_place js n → end < length tiles → tile ≡ get_or tiles end tile → tile ≡ tile_at js n
tile_there js tiles end tile n are is h here =
    here ∙ (get_or_default tiles end tile 0 h ∙ (λ i. get_or (are i) (is i) 0))

pub forward_made : (js : List Junction) (ps : List Piece) (tiles starts : List ℕ) (place end tile local : ℕ) (e : Piece) (d : DirectedRow) → IsPlanned js ps tiles starts → place < 2 * length ps → place % 2 ≡ 0 → end ≡ junction_place js (get_or ps (place / 2) e).end → tile ≡ get_or tiles end tile → edge_row tile local (record { piece = get_or ps (place / 2) e; place = place / 2; forward = true }) ≡ base_edge js (local, get_or (directed_rows ps) place d)
forward_made js ps tiles starts place end tile local e d planned h even is here =
    let inside = forward_inside js ps tiles starts (place / 2) end e planned (omega (arith, h)) is in
    ap (λ t. edge_row t local (record { piece = get_or ps (place / 2) e; place = place / 2; forward = true })) (tile_there js tiles end tile (get_or ps (place / 2) e).end planned.tiles_are is inside here)
    ∙ ap (λ r. base_edge js (local, r)) (sym (forward_row ps (place / 2) e d (omega (arith, h))) ∙ ap (λ n. get_or (directed_rows ps) n d) {x = 2 * (place / 2)} {y = place} (omega (arith, even)))

pub backward_made : (js : List Junction) (ps : List Piece) (tiles starts : List ℕ) (place end tile local : ℕ) (e : Piece) (d : DirectedRow) → IsPlanned js ps tiles starts → place < 2 * length ps → (place % 2 ≡ 0 → ⊥) → end ≡ junction_place js (get_or ps (place / 2) e).start → tile ≡ get_or tiles end tile → edge_row tile local (record { piece = get_or ps (place / 2) e; place = place / 2; forward = false }) ≡ base_edge js (local, get_or (directed_rows ps) place d)
backward_made js ps tiles starts place end tile local e d planned h odd is here =
    let inside = backward_inside js ps tiles starts (place / 2) end e planned (omega (arith, h)) is in
    ap (λ t. edge_row t local (record { piece = get_or ps (place / 2) e; place = place / 2; forward = false })) (tile_there js tiles end tile (get_or ps (place / 2) e).start planned.tiles_are is inside here)
    ∙ ap (λ r. base_edge js (local, r)) (sym (backward_row ps (place / 2) e d (omega (arith, h))) ∙ ap (λ n. get_or (directed_rows ps) n d) {x = 2 * (place / 2) + 1} {y = place} (omega (arith, odd)))
