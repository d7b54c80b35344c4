-- One piece more.
use Rattle.std.proofs.Common.{◌≡◌, ℕ, ◌+◌, ◌<◌, true, ◌||◌, List, [], ◌∷◌, ◌++◌, length, map, take, get_or, slice_get, refl, sym, ap, ◌∙◌, arith, append-nil}
use Rattle.std.specs.List.{list_any, filter_map, cons_option}
use Rattle.std.specs.Str.{bytes_eq}
use Rattle.std.proofs.lemmas.List.{map_push, length-append, take_more}
use Rattle.std.proofs.lemmas.List.Concat.{flat_map-append, flat_map-cons}
use Rattle.std.proofs.lemmas.List.Elements.{filter_map-append}
use Rattle.std.proofs.lemmas.List.Folds.{list_any-append}
use Rattle.std.proofs.lemmas.Option.{slice_get_read}
use Rattle.fixed_geo.specs.declared.points.Point.{Point}
use Rattle.osm_model.specs.declared.piece_key.PieceKey.{PieceKey}
use Rattle.edge_info.specs.declared.infos.Info.{Info}
use Rattle.edge_info.specs.Entries.{info_bytes, infos_bytes, starts_from, starts_of}
use Rattle.road_pieces.specs.declared.rows.Piece.{Piece}
use Rattle.tile_infos.specs.TileTexts.{texts_once, text_place, names_in_turn, texts_of_pieces}
use Rattle.tile_infos.specs.TileEntries.{pieces_at, entry_of_piece, entries_of_pieces}
use Rattle.tile_infos.proofs.TextLemmas.{or_left, or_right, places_stay, grew_once, once_append, once_has}

-- ---- texts

pub names_cons : (p : Piece) (ps : List Piece) → names_in_turn (p ∷ ps) ≡ p.names ++ names_in_turn ps
names_cons p ps = flat_map-cons (λ (q : Piece). q.names) p ps

names_more : (ps : List Piece) (p : Piece) → names_in_turn (ps ++ p ∷ []) ≡ names_in_turn ps ++ p.names
names_more ps p =
    flat_map-append (λ (q : Piece). q.names) ps (p ∷ [])
    ∙ ap (λ l. names_in_turn ps ++ l) (names_cons p [] ∙ append-nil p.names)

pub texts_more : (ps : List Piece) (p : Piece) → texts_of_pieces (ps ++ p ∷ []) ≡ texts_once (texts_of_pieces ps) p.names
texts_more ps p = ap (texts_once []) (names_more ps p) ∙ once_append (names_in_turn ps) p.names []

-- ---- entries

-- more texts leave the entries of pieces whose names are there
entries_stay : (ts more : List (List ℕ)) (ps : List Piece) → ((t : List ℕ) → list_any (bytes_eq t) (names_in_turn ps) ≡ true → list_any (bytes_eq t) ts ≡ true) → map (entry_of_piece (ts ++ more)) ps ≡ map (entry_of_piece ts) ps
entries_stay ts more [] h = refl
entries_stay ts more (p ∷ ps) h =
    let split : (t : List ℕ) → list_any (bytes_eq t) (names_in_turn (p ∷ ps)) ≡ (list_any (bytes_eq t) p.names || list_any (bytes_eq t) (names_in_turn ps)) = λ t. ap (list_any (bytes_eq t)) (names_cons p ps) ∙ list_any-append (bytes_eq t) p.names (names_in_turn ps) in
    let names : map (text_place (ts ++ more)) p.names ≡ map (text_place ts) p.names = places_stay ts more p.names (λ t e. h t (split t ∙ or_left (list_any (bytes_eq t) p.names) (list_any (bytes_eq t) (names_in_turn ps)) e)) in
    ap (λ l. record { key = p.key; shape = p.shape; texts = l } ∷ map (entry_of_piece (ts ++ more)) ps) names
    ∙ ap (λ es. entry_of_piece ts p ∷ es) (entries_stay ts more ps (λ t e. h t (split t ∙ or_right (list_any (bytes_eq t) p.names) (list_any (bytes_eq t) (names_in_turn ps)) e)))

pub entries_more : (ps : List Piece) (p : Piece) → entries_of_pieces (ps ++ p ∷ []) ≡ entries_of_pieces ps ++ entry_of_piece (texts_of_pieces (ps ++ p ∷ [])) p ∷ []
entries_more ps p =
    let g = grew_once p.names (texts_of_pieces ps) in
    let is : texts_of_pieces (ps ++ p ∷ []) ≡ texts_of_pieces ps ++ g.more = texts_more ps p ∙ g.is in
    map_push (entry_of_piece (texts_of_pieces (ps ++ p ∷ []))) ps p
    ∙ ap (λ l. l ++ entry_of_piece (texts_of_pieces (ps ++ p ∷ [])) p ∷ []) (ap (λ ts. map (entry_of_piece ts) ps) is ∙ entries_stay (texts_of_pieces ps) g.more ps (λ t e. once_has (names_in_turn ps) [] t e))

-- ---- offsets

size_cons : (x : Info) (xs : List Info) → length (infos_bytes (x ∷ xs)) ≡ length (info_bytes x) + length (infos_bytes xs)
size_cons x xs = ap length (flat_map-cons info_bytes x xs) ∙ length-append (info_bytes x) (infos_bytes xs)

starts_push : (at : ℕ) (infos : List Info) (x : Info) → starts_from at (infos ++ x ∷ []) ≡ starts_from at infos ++ (at + length (infos_bytes infos)) ∷ []
starts_push at [] x = let k : at ≡ at + 0 = omega arith in ap (λ n. n ∷ []) k
starts_push at (y ∷ ys) x =
    let n : at + length (info_bytes y) + length (infos_bytes ys) ≡ at + length (infos_bytes (y ∷ ys)) = omega (arith, size_cons y ys) in
    ap (λ t. at ∷ t) (starts_push (at + length (info_bytes y)) ys x ∙ ap (λ m. starts_from (at + length (info_bytes y)) ys ++ m ∷ []) n)

pub starts_more : (infos : List Info) (x : Info) (at : ℕ) → at ≡ length (infos_bytes infos) → starts_of (infos ++ x ∷ []) ≡ starts_of infos ++ at ∷ []
starts_more infos x at e = let k : 0 + length (infos_bytes infos) ≡ at = omega (arith, e) in starts_push 0 infos x ∙ ap (λ n. starts_of infos ++ n ∷ []) k

-- ---- pieces at places

pub pieces_more : (pieces : List Piece) (places : List ℕ) (i : ℕ) (p : Piece) → i < length places → get_or places i 0 < length pieces → p ≡ get_or pieces (get_or places i 0) p → pieces_at pieces (take (i + 1) places) ≡ pieces_at pieces (take i places) ++ p ∷ []
pieces_more pieces places i p lt inside is =
    ap (filter_map (slice_get pieces)) (take_more places i 0 lt)
    ∙ filter_map-append (slice_get pieces) (take i places) (get_or places i 0 ∷ [])
    ∙ ap (λ o. pieces_at pieces (take i places) ++ cons_option o []) (slice_get_read pieces (length pieces) (get_or places i 0) p refl inside is)

-- ---- one piece more

pub texts_step : (done part : List Piece) (p : Piece) (texts new names : List (List ℕ)) → part ≡ done ++ p ∷ [] → texts ≡ texts_of_pieces done → names ≡ p.names → new ≡ texts_once texts names → new ≡ texts_of_pieces part
texts_step done part p texts new names next at named grew =
    grew ∙ ap (λ l. texts_once l names) at ∙ ap (texts_once (texts_of_pieces done)) named ∙ sym (texts_more done p) ∙ ap texts_of_pieces (sym next)

-- the entry of these parts behind the others
pub infos_step : (done part : List Piece) (p : Piece) (new names : List (List ℕ)) (infos new_infos : List Info) (key : PieceKey) (shape : List Point) (places : List ℕ)
    → part ≡ done ++ p ∷ [] → new ≡ texts_of_pieces part → infos ≡ entries_of_pieces done → names ≡ p.names → key ≡ p.key → shape ≡ p.shape → places ≡ map (text_place new) names
    → new_infos ≡ infos ++ record { key = key; shape = shape; texts = places } ∷ []
    → new_infos ≡ entries_of_pieces part
infos_step done part p new names infos new_infos key shape places next at were named keyed shaped placed pushed =
    let by_key : PieceKey → Info = λ k. record { key = k; shape = shape; texts = places } in
    let by_shape : List Point → Info = λ s. record { key = p.key; shape = s; texts = places } in
    let by_texts : List ℕ → Info = λ l. record { key = p.key; shape = p.shape; texts = l } in
    let all = texts_of_pieces (done ++ p ∷ []) in
    let texts : places ≡ map (text_place all) p.names = placed ∙ ap (λ l. map (text_place l) names) (at ∙ ap texts_of_pieces next) ∙ ap (map (text_place all)) named in
    pushed
    ∙ ap (λ l. l ++ by_key key ∷ []) were
    ∙ ap (λ e. entries_of_pieces done ++ e ∷ []) (ap by_key keyed ∙ ap by_shape shaped ∙ ap by_texts texts)
    ∙ sym (entries_more done p)
    ∙ ap entries_of_pieces (sym next)

pub offsets_step : (infos new : List Info) (x : Info) (offsets new_offsets : List ℕ) (at : ℕ) → offsets ≡ starts_of infos → at ≡ length (infos_bytes infos) → new_offsets ≡ offsets ++ at ∷ [] → new ≡ infos ++ x ∷ [] → new_offsets ≡ starts_of new
offsets_step infos new x offsets new_offsets at were here put is =
    put ∙ ap (λ l. l ++ at ∷ []) were ∙ sym (starts_more infos x at here) ∙ ap starts_of (sym is)
