-- Entries that are kept by rows: how many they are, each of them, their names, their size, and one more behind them.
use Rattle.std.proofs.Common.{◌≡◌, ℕ, zero, suc, ◌+◌, ◌-◌, ◌*◌, ◌<◌, ◌≤◌, ◌↔◌, refl, sym, ap, subst, ◌∙◌, List, [], ◌∷◌, ◌++◌, length, take, drop, get_or, append_assoc, arith}
use Rattle.std.specs.Prelude.{slice_range, Result, Ok, Err, OnErr}
use Rattle.std.specs.List.{flat_map}
use Rattle.std.proofs.lemmas.List.{length-append, length-take, length-drop, drop_at, drop-append-le, take-append-le, take_all, take-append-drop}
use Rattle.std.proofs.lemmas.List.Concat.{flat_map-cons}
use Rattle.fixed_geo.specs.declared.points.Point.{Point}
use Rattle.osm_model.specs.declared.piece_key.PieceKey.{PieceKey}
use Rattle.edge_info.specs.declared.infos.Info.{Info}
use Rattle.edge_info.specs.declared.infos.InfoRow.{InfoRow}
use Rattle.edge_info.specs.Entries.{info_bytes, infos_bytes, names_of}
use Rattle.edge_info.specs.InfoRows.{info_of, infos_from, RowsFill, point_begin, name_begin}
use Rattle.edge_info.proofs.StartLaws.{info_length, infos_cons}

pub at_err : {T E : Type 0} (r : Result T E) {P : Type 0} → P → OnErr r P
at_err (Ok x) p = tt
at_err (Err e) p = p

pub rows_length : (points : List Point) (names : List ℕ) (point name : ℕ) (rows : List InfoRow) → length (infos_from points names point name rows) ≡ length rows
rows_length points names point name [] = refl
rows_length points names point name (row ∷ rows) = ap suc (rows_length points names row.points_to row.names_to rows)

no_infos : (l : List Info) → length l ≡ 0 → l ≡ []
no_infos [] e = refl
no_infos (x ∷ xs) e = absurd (omega (arith, e))

pub none_there : (infos : List Info) (points : List Point) (names : List ℕ) (rows : List InfoRow) → infos_from points names 0 0 rows ≡ infos → (infos ≡ []) ↔ (length rows ≡ 0)
none_there infos points names rows e = (
  λ none. omega (arith, ap length none, ap length e, rows_length points names 0 0 rows),
  λ zero. no_infos infos (omega (arith, zero, ap length e, rows_length points names 0 0 rows)),
)

-- ---- where rows end

pub rows_end : (points names point name : ℕ) (rows : List InfoRow) → RowsFill points names point name rows → (point ≤ points) × (name ≤ names)
rows_end points names point name [] fill = (omega (arith, fill.0), omega (arith, fill.1))
rows_end points names point name (row ∷ rows) fill =
    let more = rows_end points names row.points_to row.names_to rows fill.2 in
    (omega (arith, fill.0, more.0), omega (arith, fill.1, more.1))

pub begin_after : (point name : ℕ) (rows : List InfoRow) (i : ℕ) (none : InfoRow) → i < length rows
    → (point_begin point rows (suc i) ≡ (get_or rows i none).points_to) × (name_begin name rows (suc i) ≡ (get_or rows i none).names_to)
begin_after point name [] i none lt = absurd (omega arith)
begin_after point name (row ∷ rows) zero none lt = (refl, refl)
begin_after point name (row ∷ []) (suc i) none lt = absurd (omega arith)
begin_after point name (row ∷ row' ∷ rows) (suc i) none lt = begin_after row.points_to row.names_to (row' ∷ rows) i none (omega arith)

-- where the row before ends, this one begins
pub begin_at : (rows : List InfoRow) (i : ℕ) (none : InfoRow) → (i ≡ 0 → ⊥) → i < length rows
    → ((get_or rows (i - 1) none).points_to ≡ point_begin 0 rows i) × ((get_or rows (i - 1) none).names_to ≡ name_begin 0 rows i)
begin_at rows zero none ne lt = absurd (ne refl)
begin_at rows (suc i) none ne lt =
    let k : suc i - 1 ≡ i = omega arith in
    let b = begin_after 0 0 rows i none (omega arith) in
    rw k (sym b.0, sym b.1)

-- a row begins before it ends, and ends within the lists
pub record RowWithin (points names point name : ℕ) (row : InfoRow) : Type 0 where
  pub points_rise : point ≤ row.points_to
  pub points_inside : row.points_to ≤ points
  pub names_rise : name ≤ row.names_to
  pub names_inside : row.names_to ≤ names

pub row_within : (points names point name : ℕ) (rows : List InfoRow) (i : ℕ) (none : InfoRow) → RowsFill points names point name rows → i < length rows → RowWithin points names (point_begin point rows i) (name_begin name rows i) (get_or rows i none)
row_within points names point name [] i none fill lt = absurd (omega arith)
row_within points names point name (row ∷ rows) zero none fill lt =
    let more = rows_end points names row.points_to row.names_to rows fill.2 in
    record { points_rise = fill.0; points_inside = more.0; names_rise = fill.1; names_inside = more.1 }
row_within points names point name (row ∷ rows) (suc i) none fill lt = row_within points names row.points_to row.names_to rows i none fill.2 (omega arith)

pub entry_of_row : (points : List Point) (names : List ℕ) (point name : ℕ) (rows : List InfoRow) (i : ℕ) (none : InfoRow) (other : Info) → i < length rows
    → get_or (infos_from points names point name rows) i other ≡ info_of points names (point_begin point rows i) (name_begin name rows i) (get_or rows i none)
entry_of_row points names point name [] i none other lt = absurd (omega arith)
entry_of_row points names point name (row ∷ rows) zero none other lt = refl
entry_of_row points names point name (row ∷ rows) (suc i) none other lt = entry_of_row points names row.points_to row.names_to rows i none other (omega arith)

-- so many entries are so many rows
pub row_there : (infos : List Info) (points : List Point) (names : List ℕ) (rows rows' : List InfoRow) (i : ℕ) → infos_from points names 0 0 rows ≡ infos → rows' ≡ rows → i < length infos → i < length rows'
row_there infos points names rows rows' i e r lt = omega (arith, lt, ap length e, rows_length points names 0 0 rows, ap length r)

-- the entry at a place is that of its row
pub entry_at_place : (infos : List Info) (points : List Point) (names : List ℕ) (rows : List InfoRow) (i : ℕ) (row : InfoRow) (point name : ℕ) (other : Info) → infos_from points names 0 0 rows ≡ infos → i < length infos
    → row ≡ get_or rows i row → point ≡ point_begin 0 rows i → name ≡ name_begin 0 rows i → info_of points names point name row ≡ get_or infos i other
entry_at_place infos points names rows i row point name other e lt r p n =
    sym (ap (λ l. get_or l i other) (sym e) ∙ (entry_of_row points names 0 0 rows i row other (omega (arith, lt, ap length e, rows_length points names 0 0 rows))
    ∙ (ap (λ k. info_of points names k (name_begin 0 rows i) (get_or rows i row)) (sym p) ∙ (ap (λ k. info_of points names point k (get_or rows i row)) (sym n) ∙ ap (info_of points names point name) (sym r)))))

pub within_at : (infos : List Info) (points : List Point) (names : List ℕ) (rows : List InfoRow) (i : ℕ) (row : InfoRow) (point name : ℕ) → infos_from points names 0 0 rows ≡ infos → RowsFill (length points) (length names) 0 0 rows → i < length infos
    → row ≡ get_or rows i row → point ≡ point_begin 0 rows i → name ≡ name_begin 0 rows i → RowWithin (length points) (length names) point name row
within_at infos points names rows i row point name e fill lt r p n =
    let w = row_within (length points) (length names) 0 0 rows i row fill (omega (arith, lt, ap length e, rows_length points names 0 0 rows)) in
    subst (λ k. RowWithin (length points) (length names) k name row) (sym p) (subst (λ k. RowWithin (length points) (length names) (point_begin 0 rows i) k row) (sym n) (subst (RowWithin (length points) (length names) (point_begin 0 rows i) (name_begin 0 rows i)) (sym r) w))

-- ---- one entry more

part_append : {X : Type 0} (xs more : List X) (from to : ℕ) → from ≤ to → to ≤ length xs → slice_range (xs ++ more) from to ≡ slice_range xs from to
part_append xs more from to h l =
    ap (take (to - from)) (drop-append-le from xs more (omega arith)) ∙ take-append-le (to - from) (drop from xs) more (omega (arith, length-drop from xs))

-- what was put behind the others is the part from there on
part_end : {X : Type 0} (xs more : List X) → slice_range (xs ++ more) (length xs) (length (xs ++ more)) ≡ more
part_end xs more =
    ap (take (length (xs ++ more) - length xs)) (drop_at xs more (length xs) refl) ∙ take_all (length (xs ++ more) - length xs) more (omega (arith, length-append xs more))

info_with : PieceKey → List Point → List ℕ → Info
info_with key shape texts = record { key = key; shape = shape; texts = texts }

row_behind_is : (points more : List Point) (names most : List ℕ) (key : PieceKey) → info_of (points ++ more) (names ++ most) (length points) (length names) (record { key = key; points_to = length (points ++ more); names_to = length (names ++ most) }) ≡ record { key = key; shape = more; texts = most }
unfolding info_with
row_behind_is points more names most key =
    ap (λ p. info_with key p (slice_range (names ++ most) (length names) (length (names ++ most)))) (part_end points more) ∙ ap (info_with key more) (part_end names most)

row_stays : (points more : List Point) (names most : List ℕ) (point name : ℕ) (row : InfoRow) → RowWithin (length points) (length names) point name row → info_of (points ++ more) (names ++ most) point name row ≡ info_of points names point name row
unfolding info_with
row_stays points more names most point name row within =
    ap (λ p. info_with row.key p (slice_range (names ++ most) name row.names_to)) (part_append points more point row.points_to within.points_rise within.points_inside)
    ∙ ap (info_with row.key (slice_range points point row.points_to)) (part_append names most name row.names_to within.names_rise within.names_inside)

put_behind : (points more : List Point) (names most : List ℕ) (key : PieceKey) (point name : ℕ) (rows : List InfoRow) → RowsFill (length points) (length names) point name rows
    → infos_from (points ++ more) (names ++ most) point name (rows ++ record { key = key; points_to = length (points ++ more); names_to = length (names ++ most) } ∷ []) ≡ infos_from points names point name rows ++ record { key = key; shape = more; texts = most } ∷ []
put_behind points more names most key point name [] fill =
    let row : InfoRow = record { key = key; points_to = length (points ++ more); names_to = length (names ++ most) } in
    ap (λ p. info_of (points ++ more) (names ++ most) p name row ∷ []) fill.0 ∙ (ap (λ n. info_of (points ++ more) (names ++ most) (length points) n row ∷ []) fill.1 ∙ ap (λ i. i ∷ []) (row_behind_is points more names most key))
put_behind points more names most key point name (row ∷ rows) fill =
    let ends = rows_end (length points) (length names) row.points_to row.names_to rows fill.2 in
    let within : RowWithin (length points) (length names) point name row = record { points_rise = fill.0; points_inside = ends.0; names_rise = fill.1; names_inside = ends.1 } in
    ap (λ i. i ∷ infos_from (points ++ more) (names ++ most) row.points_to row.names_to (rows ++ record { key = key; points_to = length (points ++ more); names_to = length (names ++ most) } ∷ [])) (row_stays points more names most point name row within)
    ∙ ap (λ l. info_of points names point name row ∷ l) (put_behind points more names most key row.points_to row.names_to rows fill.2)

-- an entry behind the others
pub info_behind : (old : List Info) (points points' more : List Point) (names names' most : List ℕ) (rows rows' : List InfoRow) (key : PieceKey) → infos_from points names 0 0 rows ≡ old → RowsFill (length points) (length names) 0 0 rows
    → points' ≡ points ++ more → names' ≡ names ++ most → rows' ≡ rows ++ record { key = key; points_to = length points'; names_to = length names' } ∷ [] → infos_from points' names' 0 0 rows' ≡ old ++ record { key = key; shape = more; texts = most } ∷ []
info_behind old points points' more names names' most rows rows' key e fill p n r =
    ap (infos_from points' names' 0 0) r
    ∙ (ap (λ q. infos_from q names' 0 0 (rows ++ record { key = key; points_to = length q; names_to = length names' } ∷ [])) p
    ∙ (ap (λ q. infos_from (points ++ more) q 0 0 (rows ++ record { key = key; points_to = length (points ++ more); names_to = length q } ∷ [])) n
    ∙ (put_behind points more names most key 0 0 rows fill ∙ ap (λ l. l ++ record { key = key; shape = more; texts = most } ∷ []) e)))

pub row_put : (rows rows' : List InfoRow) (key : PieceKey) (p p' n n' : ℕ) → rows' ≡ rows ++ record { key = key; points_to = p; names_to = n } ∷ [] → p ≡ p' → n ≡ n' → rows' ≡ rows ++ record { key = key; points_to = p'; names_to = n' } ∷ []
row_put rows rows' key p p' n n' e a b = rw (sym a, sym b) e

fill_more : (points names points' names' point name : ℕ) (key : PieceKey) (rows : List InfoRow) → RowsFill points names point name rows → points ≤ points' → names ≤ names' → RowsFill points' names' point name (rows ++ record { key = key; points_to = points'; names_to = names' } ∷ [])
fill_more points names points' names' point name key [] fill p n = (omega (arith, fill.0, p), omega (arith, fill.1, n), (refl, refl))
fill_more points names points' names' point name key (row ∷ rows) fill p n = (fill.0, fill.1, fill_more points names points' names' row.points_to row.names_to key rows fill.2 p n)

pub fill_behind : (points points' more : List Point) (names names' most : List ℕ) (rows rows' : List InfoRow) (key : PieceKey) → RowsFill (length points) (length names) 0 0 rows
    → points' ≡ points ++ more → names' ≡ names ++ most → rows' ≡ rows ++ record { key = key; points_to = length points'; names_to = length names' } ∷ [] → RowsFill (length points') (length names') 0 0 rows'
fill_behind points points' more names names' most rows rows' key fill p n r =
    subst (RowsFill (length points') (length names') 0 0) (sym r)
    (fill_more (length points) (length names) (length points') (length names') 0 0 key rows fill (omega (arith, ap length p, length-append points more)) (omega (arith, ap length n, length-append names most)))

-- lists that were cut to their old lengths are the old lists
pub cut_back : {X : Type 0} (xs more ys zs : List X) (n : ℕ) → ys ≡ xs ++ more → n ≡ length xs → zs ≡ take n ys → zs ≡ xs
cut_back xs more ys zs n e l t = t ∙ (ap (λ k. take k ys) l ∙ (ap (take (length xs)) e ∙ (take-append-le (length xs) xs more (omega arith) ∙ take_all (length xs) xs (omega arith))))

pub same_rows : (old : List Info) (points points' : List Point) (names names' : List ℕ) (rows rows' : List InfoRow) → infos_from points names 0 0 rows ≡ old → points' ≡ points → names' ≡ names → rows' ≡ rows → infos_from points' names' 0 0 rows' ≡ old
same_rows old points points' names names' rows rows' e p n r =
    ap (infos_from points' names' 0 0) r ∙ (ap (λ q. infos_from q names' 0 0 rows) p ∙ (ap (λ q. infos_from points q 0 0 rows) n ∙ e))

pub same_fill : (points points' : List Point) (names names' : List ℕ) (rows rows' : List InfoRow) → RowsFill (length points) (length names) 0 0 rows → points' ≡ points → names' ≡ names → rows' ≡ rows → RowsFill (length points') (length names') 0 0 rows'
same_fill points points' names names' rows rows' fill p n r =
    subst (RowsFill (length points') (length names') 0 0) (sym r) (subst (λ k. RowsFill k (length names') 0 0 rows) (sym (ap length p)) (subst (λ k. RowsFill (length points) k 0 0 rows) (sym (ap length n)) fill))

-- ---- all names, and the size

drop_part : (names : List ℕ) (from to : ℕ) → from ≤ to → slice_range names from to ++ drop to names ≡ drop from names
drop_part names from to le =
    ap (λ l. slice_range names from to ++ l) (sym (drop_further from (to - from) names (to) (omega arith))) ∙ take-append-drop (to - from) (drop from names)
  where
    drop_further : (a b : ℕ) (xs : List ℕ) (n : ℕ) → a + b ≡ n → drop b (drop a xs) ≡ drop n xs
    drop_further zero b xs n e = let k : b ≡ n = omega (arith, e) in ap (λ m. drop m xs) k
    drop_further (suc a) b [] zero e = absurd (omega (arith, e))
    drop_further (suc a) b [] (suc n) e = drop_nil b
      where
        drop_nil : (b : ℕ) → ◌≡◌ {A = List ℕ} (drop b []) []
        drop_nil zero = refl
        drop_nil (suc b) = refl
    drop_further (suc a) b (x ∷ xs) zero e = absurd (omega (arith, e))
    drop_further (suc a) b (x ∷ xs) (suc n) e = drop_further a b xs n (omega (arith, e))

names_from : (points : List Point) (names : List ℕ) (point name : ℕ) (rows : List InfoRow) → RowsFill (length points) (length names) point name rows → names_of (infos_from points names point name rows) ≡ drop name names
names_from points names point name [] fill = sym (ap (λ n. drop n names) fill.1 ∙ drop_all names)
  where
    drop_all : (xs : List ℕ) → drop (length xs) xs ≡ []
    drop_all [] = refl
    drop_all (x ∷ xs) = drop_all xs
names_from points names point name (row ∷ rows) fill =
    flat_map-cons (λ (i : Info). i.texts) (info_of points names point name row) (infos_from points names row.points_to row.names_to rows)
    ∙ (ap (λ l. slice_range names name row.names_to ++ l) (names_from points names row.points_to row.names_to rows fill.2) ∙ drop_part names name row.names_to fill.1)

pub names_are : (infos : List Info) (points : List Point) (names : List ℕ) (rows : List InfoRow) → infos_from points names 0 0 rows ≡ infos → RowsFill (length points) (length names) 0 0 rows → names ≡ names_of infos
names_are infos points names rows e fill = sym (sym (ap names_of e) ∙ names_from points names 0 0 rows fill)

part_length : {X : Type 0} (xs : List X) (from to : ℕ) → from ≤ to → to ≤ length xs → length (slice_range xs from to) + from ≡ to
part_length xs from to le inside = omega (arith, length-take (to - from) (drop from xs), length-drop from xs)

size_from : (points : List Point) (names : List ℕ) (point name : ℕ) (rows : List InfoRow) → RowsFill (length points) (length names) point name rows
    → length (infos_bytes (infos_from points names point name rows)) + 8 * point + 4 * name ≡ 24 * length rows + 8 * length points + 4 * length names
size_from points names point name [] fill = omega (arith, fill.0, fill.1)
size_from points names point name (row ∷ rows) fill =
    let ends = rows_end (length points) (length names) row.points_to row.names_to rows fill.2 in
    let info = info_of points names point name row in
    omega (
      arith,
      infos_cons info (infos_from points names row.points_to row.names_to rows),
      info_length info,
      part_length points point row.points_to fill.0 ends.0,
      part_length names name row.names_to fill.1 ends.1,
      size_from points names row.points_to row.names_to rows fill.2,
    )

pub size_is : (infos : List Info) (points : List Point) (names : List ℕ) (rows : List InfoRow) → infos_from points names 0 0 rows ≡ infos → RowsFill (length points) (length names) 0 0 rows → length (infos_bytes infos) ≡ 24 * length rows + 8 * length points + 4 * length names
size_is infos points names rows e fill = let s = size_from points names 0 0 rows fill in sym (ap (λ i. length (infos_bytes i)) e) ∙ omega (arith, s)
