-- The entries and the texts pass the checks of a tile file.
use Rattle.std.proofs.Common.{◌≡◌, ℕ, suc, ◌<◌, ◌≤◌, ◌^◌, true, ◌||◌, List, [], ◌∷◌, ◌++◌, length, map, get_or, refl, sym, ap, ◌∙◌, subst, arith, All, AllPairs}
use Rattle.std.specs.List.{list_any, cons_option}
use Rattle.std.specs.Str.{bytes_eq}
use Rattle.std.proofs.lemmas.List.{map-append, length-map, get_or-map}
use Rattle.std.proofs.lemmas.List.Concat.{flat_map-cons}
use Rattle.std.proofs.lemmas.List.Elements.{All-nil, All-cons, All-head, All-tail, All-same, All-append, All-push, All-get_or}
use Rattle.std.proofs.lemmas.List.Folds.{list_any-append}
use Rattle.std.proofs.lemmas.Option.{slice_get-get_or}
use Rattle.osm_model.specs.declared.piece_key.PieceKey.{PieceKey}
use Rattle.section_grammar.specs.Reads.{AllGood}
use Rattle.edge_info.specs.declared.infos.Info.{Info}
use Rattle.edge_info.specs.Entries.{comes_before, key_rises, InfoPasses, InfosPass, names_of}
use Rattle.edge_info.specs.Texts.{TextPasses, TextsPass, AreFirstNamed}
use Rattle.road_pieces.specs.declared.rows.Piece.{Piece}
use Rattle.tile_infos.specs.TileTexts.{texts_once, text_place, names_in_turn, texts_of_pieces}
use Rattle.tile_infos.specs.TileEntries.{pieces_at, entry_of_piece, entries_of_pieces}
use Rattle.tile_infos.specs.TileChecks.{IsRoadName, HasEntry, KeysRise}
use Rattle.tile_infos.proofs.TextLemmas.{itself, or_left, or_right, once_has}
use Rattle.tile_infos.proofs.EntryLemmas.{names_cons}
use Rattle.tile_infos.proofs.OrderLemmas.{once_passes, place_inside, named_in_order}

-- ---- texts

names_good : (ps : List Piece) → All HasEntry ps → All IsRoadName (names_in_turn ps)
names_good [] h = All-nil IsRoadName
names_good (p ∷ ps) h =
    All-same IsRoadName (names_in_turn (p ∷ ps)) (p.names ++ names_in_turn ps) (names_cons p ps)
    (All-append IsRoadName p.names (names_in_turn ps) (All-head HasEntry p ps h).names (names_good ps (All-tail HasEntry p ps h)))

-- the names of the entries are the places of the pieces' names
entry_names : (ts : List (List ℕ)) (ps : List Piece) → names_of (map (entry_of_piece ts) ps) ≡ map (text_place ts) (names_in_turn ps)
entry_names ts [] = refl
entry_names ts (p ∷ ps) =
    flat_map-cons (λ (i : Info). i.texts) (entry_of_piece ts p) (map (entry_of_piece ts) ps)
    ∙ ap (λ l. map (text_place ts) p.names ++ l) (entry_names ts ps)
    ∙ sym (ap (map (text_place ts)) (names_cons p ps) ∙ map-append (text_place ts) p.names (names_in_turn ps))

pub texts_pass : (ps : List Piece) → All HasEntry ps → TextsPass (names_of (entries_of_pieces ps)) (texts_of_pieces ps)
texts_pass ps h =
    let xs = names_in_turn ps in
    let r = once_passes xs [] (names_good ps h) in
    record {
      each = subst (AllGood TextPasses []) (sym r.1) r.2;
      order = subst (λ names. AreFirstNamed names (texts_once [] xs)) (sym (entry_names (texts_once [] xs) ps)) (named_in_order xs);
    }

-- ---- entries

-- a key goes on where all entries come before it
rises_behind : (before : List Info) (key : PieceKey) → All (λ (i : Info). comes_before i.key key ≡ true) before → key_rises before key ≡ true
rises_behind [] key h = refl
rises_behind (i ∷ []) key h = All-head (λ (j : Info). comes_before j.key key ≡ true) i [] h
rises_behind (i ∷ j ∷ js) key h = rises_behind (j ∷ js) key (All-tail (λ (k : Info). comes_before k.key key ≡ true) i (j ∷ js) h)

names_inside : (ts xs : List (List ℕ)) → length ts ≤ 2 ^ 32 → ((t : List ℕ) → list_any (bytes_eq t) xs ≡ true → list_any (bytes_eq t) ts ≡ true) → All (λ name. (name < length ts) × (name < 2 ^ 32)) (map (text_place ts) xs)
names_inside ts [] few h = All-nil (λ name. (name < length ts) × (name < 2 ^ 32))
names_inside ts (x ∷ xs) few h =
    let here : text_place ts x < length ts = place_inside ts x (h x (or_left (bytes_eq x x) (list_any (bytes_eq x) xs) (itself x))) in
    All-cons (λ name. (name < length ts) × (name < 2 ^ 32)) (text_place ts x) (map (text_place ts) xs)
    (here, omega (arith, here, few))
    (names_inside ts xs few (λ t e. h t (or_right (bytes_eq t x) (list_any (bytes_eq t) xs) e)))

all_pass : (ts : List (List ℕ)) (ps : List Piece) (before : List Info) → length ts ≤ 2 ^ 32 → All HasEntry ps → KeysRise ps
    → All (λ (p : Piece). All (λ (i : Info). comes_before i.key p.key ≡ true) before) ps
    → ((t : List ℕ) → list_any (bytes_eq t) (names_in_turn ps) ≡ true → list_any (bytes_eq t) ts ≡ true)
    → AllGood (InfoPasses (length ts)) before (map (entry_of_piece ts) ps)
all_pass ts [] before few good rise above there = tt
all_pass ts (p ∷ ps) before few good rise above there =
    let split : (t : List ℕ) → list_any (bytes_eq t) (names_in_turn (p ∷ ps)) ≡ (list_any (bytes_eq t) p.names || list_any (bytes_eq t) (names_in_turn ps)) = λ t. ap (list_any (bytes_eq t)) (names_cons p ps) ∙ list_any-append (bytes_eq t) p.names (names_in_turn ps) in
    let entry = All-head HasEntry p ps good in
    let here : InfoPasses (length ts) before (entry_of_piece ts p) = record {
      key = entry.key;
      rises = rises_behind before p.key (All-head (λ (q : Piece). All (λ (i : Info). comes_before i.key q.key ≡ true) before) p ps above);
      two_points = entry.two_points;
      places = entry.places;
      names = names_inside ts p.names few (λ t e. there t (split t ∙ or_left (list_any (bytes_eq t) p.names) (list_any (bytes_eq t) (names_in_turn ps)) e));
    } in
    let later : All (λ (q : Piece). All (λ (i : Info). comes_before i.key q.key ≡ true) before) ps = All-tail (λ (q : Piece). All (λ (i : Info). comes_before i.key q.key ≡ true) before) p ps above in
    let above' : All (λ (q : Piece). All (λ (i : Info). comes_before i.key q.key ≡ true) (before ++ entry_of_piece ts p ∷ [])) ps = λ k d l.
    All-push (λ (i : Info). comes_before i.key (get_or ps k d).key ≡ true) before (entry_of_piece ts p) (later k d l) (rise 0 (suc k) d (omega arith) (omega (arith, l))) in (
      here,
      all_pass ts ps (before ++ entry_of_piece ts p ∷ []) few (All-tail HasEntry p ps good)
          (λ i j d a b. rise (suc i) (suc j) d (omega (arith, a)) (omega (arith, b)))
          above'
          (λ t e. there t (split t ∙ or_right (list_any (bytes_eq t) p.names) (list_any (bytes_eq t) (names_in_turn ps)) e)),
    )

pub infos_pass : (ps : List Piece) → All HasEntry ps → KeysRise ps → length (texts_of_pieces ps) ≤ 2 ^ 32 → InfosPass (length (texts_of_pieces ps)) (entries_of_pieces ps)
infos_pass ps good rise few =
    all_pass (texts_of_pieces ps) ps [] few good rise (λ k d l. All-nil (λ (i : Info). comes_before i.key (get_or ps k d).key ≡ true)) (λ t e. once_has (names_in_turn ps) [] t e)

-- ---- pieces at places

at_places : (pieces : List Piece) (d : Piece) (places : List ℕ) → All (λ place. place < length pieces) places → pieces_at pieces places ≡ map (λ place. get_or pieces place d) places
at_places pieces d [] h = refl
at_places pieces d (n ∷ ns) h =
    ap (λ o. cons_option o (pieces_at pieces ns)) (slice_get-get_or pieces n d (All-head (λ place. place < length pieces) n ns h))
    ∙ ap (λ l. get_or pieces n d ∷ l) (at_places pieces d ns (All-tail (λ place. place < length pieces) n ns h))

pub chosen_long : (pieces : List Piece) (places : List ℕ) → All (λ place. place < length pieces) places → length (pieces_at pieces places) ≡ length places
chosen_long [] [] h = refl
chosen_long [] (n ∷ ns) h = let none : n < 0 = All-head (λ place. place < 0) n ns h in absurd (omega (arith, none))
chosen_long (q ∷ qs) places h = ap length (at_places (q ∷ qs) q places h) ∙ length-map places (λ place. get_or (q ∷ qs) place q)

pub chosen_at : (pieces : List Piece) (places : List ℕ) (i : ℕ) (d : Piece) → All (λ place. place < length pieces) places → i < length places → get_or (pieces_at pieces places) i d ≡ get_or pieces (get_or places i 0) d
chosen_at pieces places i d inside lt =
    ap (λ l. get_or l i d) (at_places pieces d places inside) ∙ get_or-map (λ place. get_or pieces place d) places i 0 d lt

-- keys of pieces that are chosen in order rise where those of all do
pub chosen_rise : (pieces : List Piece) (places : List ℕ) → KeysRise pieces → All (λ place. place < length pieces) places → AllPairs (λ a b. a < b) places → KeysRise (pieces_at pieces places)
chosen_rise pieces places rise inside up = λ i j d a b.
    let b' : j < length places = omega (arith, b, chosen_long pieces places inside) in
    let at_i = chosen_at pieces places i d inside (omega (arith, a, b')) in
    let at_j = chosen_at pieces places j d inside b' in
    let here = rise (get_or places i 0) (get_or places j 0) d (up i j 0 a b') (All-get_or (λ place. place < length pieces) places j 0 b' inside) in
    ap (λ (p : Piece). comes_before p.key (get_or (pieces_at pieces places) j d).key) at_i ∙ ap (λ (q : Piece). comes_before (get_or pieces (get_or places i 0) d).key q.key) at_j ∙ here

pub chosen_have : (pieces : List Piece) (places : List ℕ) → All HasEntry pieces → All (λ place. place < length pieces) places → All HasEntry (pieces_at pieces places)
chosen_have pieces places good inside = λ i d a.
    let a' : i < length places = omega (arith, a, chosen_long pieces places inside) in
    subst HasEntry (sym (chosen_at pieces places i d inside a')) (good (get_or places i 0) d (All-get_or (λ place. place < length pieces) places i 0 a' inside))
