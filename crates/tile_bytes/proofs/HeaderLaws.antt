-- A header that is read is the one that was written, and again.
use Rattle.std.proofs.Common.{◌≡◌, ℕ, zero, suc, ◌+◌, ◌*◌, ◌/◌, ◌%◌, ◌^◌, ◌<◌, ◌≤◌, Bool, true, false, cond, ltb, leb, eqb, ◌&&◌, List, [], ◌∷◌, ◌++◌, length, drop, get_or, Result, Ok, Err, refl, sym, ap, subst, ◌∙◌, arith}
use Rattle.std.proofs.lemmas.Bool.{ltb-false, ltb-true, le-ltb, leb-true, le-leb, eqb-true, eq-eqb, and_parts, and_from}
use Rattle.std.proofs.lemmas.List.{length-append, length-drop, drop_at}
use Rattle.std.proofs.lemmas.Nat.{and_le_r}
use Rattle.std.specs.Prelude.{bit_and}
use Rattle.graph_id.specs.GraphId.{invalid}
use Rattle.edge_info.specs.InfoSets.{gap}
use Rattle.section_grammar.specs.WordBytes.{IsByteList, words_in, words_bytes}
use Rattle.section_grammar.specs.Answers.{FailedCheck, Check}
use Rattle.section_grammar.proofs.WordLaws.{words_take, words_below, words_again, words_bytes-length}
use Rattle.section_grammar.proofs.Steps.{guard_ok, ok_is}
use Rattle.tile_bytes.specs.declared.header.TheConstants.{SIGNATURE, MOST_RECORDS}
use Rattle.way_tags.specs.declared.modes.TheConstants.{ALL}
use Rattle.tile_bytes.specs.declared.header.Header.{Header}
use Rattle.tile_bytes.specs.Header.{file_size, header_of, corner_word, header_words, names_tile, are_modes, tested, header_tests, header_at, IsTileHeader}

abbrev pub AllPass : List (Bool × FailedCheck) → Type 0
AllPass [] = Unit {0}
AllPass (t ∷ ts) = (t.0 ≡ true) × AllPass ts

tested_step : {A : Type 0} (b : Bool) (d : FailedCheck) (r : Result A FailedCheck) (y : A) → cond b r (Err d) ≡ Ok y → (b ≡ true) × (r ≡ Ok y)
tested_step true d r y e = (refl, e)
tested_step false d r y e = absurd cc

pub tested_ok : {A : Type 0} (ts : List (Bool × FailedCheck)) (x y : A) → tested ts x ≡ Ok y → AllPass ts × (x ≡ y)
tested_ok [] x y e = (tt, ok_is {F = FailedCheck} x y e)
tested_ok (t ∷ ts) x y e =
    let a = tested_step t.0 t.1 (tested ts x) y e in
    let more = tested_ok ts x y a.1 in
    ((a.0, more.0), more.1)

tested_again : {A : Type 0} (ts : List (Bool × FailedCheck)) (x : A) → AllPass ts → tested ts x ≡ Ok x
tested_again [] x h = refl
tested_again (t ∷ ts) x h = ap (λ b. cond b (tested ts x) (Err t.1)) h.0 ∙ tested_again ts x h.1

eight_same : {a a' b b' c c' d d' e e' f f' g g' h h' : ℕ} → a ≡ a' → b ≡ b' → c ≡ c' → d ≡ d' → e ≡ e' → f ≡ f' → g ≡ g' → h ≡ h'
    → ◌≡◌ {A = List ℕ} (a ∷ b ∷ c ∷ d ∷ e ∷ f ∷ g ∷ h ∷ []) (a' ∷ b' ∷ c' ∷ d' ∷ e' ∷ f' ∷ g' ∷ h' ∷ [])
eight_same e0 e1 e2 e3 e4 e5 e6 e7 = cc

two_halves : (w : ℕ) → w ≡ w % 2 ^ 32 + 2 ^ 32 * (w / 2 ^ 32)
two_halves w = omega arith

low_top : (w s : ℕ) → w % 2 ^ 48 ≡ s → w ≡ s + 2 ^ 48 * (w / 2 ^ 48)
low_top w s e = omega (arith, e)

high_fits : (w : ℕ) → w < 2 ^ 64 → w / 2 ^ 32 < 2 ^ 32
high_fits w lt = omega arith

low_fits : (w : ℕ) → w % 2 ^ 32 < 2 ^ 32
low_fits w = omega arith

pub record HeaderTook (bytes : List ℕ) (h : Header) (rest : List ℕ) : Type 0 where
  pub good : IsTileHeader h
  pub size : file_size h ≡ length bytes
  pub spelled_so : bytes ≡ words_bytes (header_words h) ++ rest
  pub left : length rest + 64 ≡ file_size h

-- words that pass are those of the header that they say
words_are : (size : ℕ) (ws : List ℕ) → ((i : ℕ) → get_or ws i 0 < 2 ^ 64) → AllPass (header_tests size ws) → IsTileHeader (header_of ws) × (file_size (header_of ws) ≡ size)
    × ((get_or ws 0 0 ∷ get_or ws 1 0 ∷ get_or ws 2 0 ∷ get_or ws 3 0 ∷ get_or ws 4 0 ∷ get_or ws 5 0 ∷ get_or ws 6 0 ∷ get_or ws 7 0 ∷ []) ≡ header_words (header_of ws))
unfolding header_words
words_are size ws below pass =
    let h = header_of ws in
    let w7 = get_or ws 7 0 in
    let t5 = pass.1.1.1.0 in
    let few = and_parts (leb h.nodes MOST_RECORDS) (leb h.edges MOST_RECORDS) t5 in
    let last = and_parts (eqb (w7 % 2 ^ 48) size && eqb (file_size h) size) (are_modes h.modes) pass.1.1.1.1.1.0 in
    let sizes = and_parts (eqb (w7 % 2 ^ 48) size) (eqb (file_size h) size) last.0 in
    let low7 : w7 % 2 ^ 48 ≡ size = eqb-true _ _ sizes.0 in
    let whole : file_size h ≡ size = eqb-true _ _ sizes.1 in (
      record {
        tile = pass.1.0;
        few_nodes = leb-true _ _ few.0;
        few_edges = leb-true _ _ few.1;
        few_transitions = leb-true _ _ pass.1.1.1.1.0;
        chain_words = high_fits (get_or ws 4 0) (below 4);
        sequence_words = low_fits (get_or ws 5 0);
        texts = high_fits (get_or ws 5 0) (below 5);
        info_bytes = low_fits (get_or ws 6 0);
        text_bytes = high_fits (get_or ws 6 0) (below 6);
        modes = last.1;
      },
      whole,
      eight_same (eqb-true _ _ pass.0) refl (eqb-true _ _ pass.1.1.0) (two_halves (get_or ws 3 0)) (two_halves (get_or ws 4 0)) (two_halves (get_or ws 5 0)) (two_halves (get_or ws 6 0)) (low_top w7 (file_size h) (low7 ∙ sym whole)),
    )

pub header_takes : (bytes : List ℕ) (h : Header) (rest : List ℕ) → IsByteList bytes → header_at bytes ≡ Ok (h, rest) → HeaderTook bytes h rest
unfolding header_at
header_takes bytes h rest fits e =
    let ws = words_in 8 bytes in
    let k = header_of ws in
    let a = guard_ok (ltb (length bytes) 64) (Check 1 (length bytes)) (tested (header_tests (length bytes) ws) (k, drop 64 bytes)) (h, rest) e in
    let b = tested_ok (header_tests (length bytes) ws) (k, drop 64 bytes) (h, rest) a.1 in
    let long : 64 ≤ length bytes = ltb-false _ _ a.0 in
    let are = words_are (length bytes) ws (words_below 8 bytes fits) b.0 in
    let back : bytes ≡ words_bytes (header_words k) ++ drop 64 bytes = sym (words_take 8 bytes fits long) ∙ ap (λ xs. words_bytes xs ++ drop 64 bytes) are.2 in
    subst (λ (p : Header × List ℕ). HeaderTook bytes p.0 p.1) b.1
    (record { good = are.0; size = are.1; spelled_so = back; left = omega (arith, length-drop 64 bytes, are.1) })

-- ---- again

pub id_below : (id : ℕ) → names_tile id ≡ true → id < invalid
id_below id e =
    let a = and_parts _ _ e in
    let b = and_parts _ _ a.0 in
    let d = and_parts _ _ b.0 in
    ltb-true _ _ d.0

pub modes_below : (modes : ℕ) → are_modes modes ≡ true → modes ≤ 79
modes_below modes e =
    let a = and_parts _ _ e in
    let within : bit_and modes ALL ≡ modes = eqb-true _ _ a.1 in
    subst (λ (n : ℕ). n ≤ 79) within (and_le_r modes ALL)

gap_below : (n : ℕ) → gap n < 8
gap_below n = omega arith

size_below : (h : Header) → IsTileHeader h → file_size h < 2 ^ 40
size_below h good =
    let g = gap_below (h.info_bytes + h.text_bytes) in
    omega (arith, g, good.few_nodes, good.few_edges, good.few_transitions, good.chain_words, good.sequence_words, good.info_bytes, good.text_bytes)

halves_fit : (a b : ℕ) → a < 2 ^ 32 → b < 2 ^ 32 → a + 2 ^ 32 * b < 2 ^ 64
halves_fit a b p q = omega arith

eight_below : (a b c d e f g h : ℕ) → a < 2 ^ 64 → b < 2 ^ 64 → c < 2 ^ 64 → d < 2 ^ 64 → e < 2 ^ 64 → f < 2 ^ 64 → g < 2 ^ 64 → h < 2 ^ 64 → (i : ℕ) → get_or (a ∷ b ∷ c ∷ d ∷ e ∷ f ∷ g ∷ h ∷ []) i 0 < 2 ^ 64
eight_below a b c d e f g h p0 p1 p2 p3 p4 p5 p6 p7 zero = p0
eight_below a b c d e f g h p0 p1 p2 p3 p4 p5 p6 p7 (suc zero) = p1
eight_below a b c d e f g h p0 p1 p2 p3 p4 p5 p6 p7 (suc (suc zero)) = p2
eight_below a b c d e f g h p0 p1 p2 p3 p4 p5 p6 p7 (suc (suc (suc zero))) = p3
eight_below a b c d e f g h p0 p1 p2 p3 p4 p5 p6 p7 (suc (suc (suc (suc zero)))) = p4
eight_below a b c d e f g h p0 p1 p2 p3 p4 p5 p6 p7 (suc (suc (suc (suc (suc zero))))) = p5
eight_below a b c d e f g h p0 p1 p2 p3 p4 p5 p6 p7 (suc (suc (suc (suc (suc (suc zero)))))) = p6
eight_below a b c d e f g h p0 p1 p2 p3 p4 p5 p6 p7 (suc (suc (suc (suc (suc (suc (suc zero))))))) = p7
eight_below a b c d e f g h p0 p1 p2 p3 p4 p5 p6 p7 (suc (suc (suc (suc (suc (suc (suc (suc i)))))))) = omega arith

abbrev pub header_with : ℕ → ℕ → ℕ → ℕ → ℕ → ℕ → ℕ → ℕ → ℕ → ℕ → Header
header_with id modes nodes edges transitions chain_words sequence_words texts info_bytes text_bytes = record {
  id = id;
  modes = modes;
  nodes = nodes;
  edges = edges;
  transitions = transitions;
  chain_words = chain_words;
  sequence_words = sequence_words;
  texts = texts;
  info_bytes = info_bytes;
  text_bytes = text_bytes;
}

pub parts_same : {a a' b b' c c' d d' e e' f f' g g' h h' i i' : ℕ} (id : ℕ) → a ≡ a' → b ≡ b' → c ≡ c' → d ≡ d' → e ≡ e' → f ≡ f' → g ≡ g' → h ≡ h' → i ≡ i'
    → header_with id a b c d e f g h i ≡ header_with id a' b' c' d' e' f' g' h' i'
parts_same id e0 e1 e2 e3 e4 e5 e6 e7 e8 = rw (e0, e1, e2, e3, e4, e5, e6, e7, e8) refl

low_of : (a b : ℕ) → a < 2 ^ 32 → (a + 2 ^ 32 * b) % 2 ^ 32 ≡ a
low_of a b lt = omega arith

high_of : (a b : ℕ) → a < 2 ^ 32 → (a + 2 ^ 32 * b) / 2 ^ 32 ≡ b
high_of a b lt = omega arith

top_of : (s m : ℕ) → s < 2 ^ 40 → (s + 2 ^ 48 * m) / 2 ^ 48 ≡ m
top_of s m lt = omega arith

rest_of : (s m : ℕ) → s < 2 ^ 40 → (s + 2 ^ 48 * m) % 2 ^ 48 ≡ s
rest_of s m lt = omega arith

header_back : (h : Header) → IsTileHeader h → header_of (header_words h) ≡ h
unfolding header_words
header_back h good =
    let n : h.nodes < 2 ^ 32 = (let p = good.few_nodes in omega arith) in
    let t : h.transitions < 2 ^ 32 = (let p = good.few_nodes in let q = good.few_transitions in omega arith) in
    parts_same h.id (top_of (file_size h) h.modes (size_below h good)) (low_of h.nodes h.edges n) (high_of h.nodes h.edges n) (low_of h.transitions h.chain_words t) (high_of h.transitions h.chain_words t)
    (low_of h.sequence_words h.texts good.sequence_words) (high_of h.sequence_words h.texts good.sequence_words) (low_of h.info_bytes h.text_bytes good.info_bytes) (high_of h.info_bytes h.text_bytes good.info_bytes)

word_of_size : (h : Header) → get_or (header_words h) 7 0 ≡ file_size h + 2 ^ 48 * h.modes
unfolding header_words
word_of_size h = refl

first_words : (h : Header) → (get_or (header_words h) 0 0 ≡ SIGNATURE) × (get_or (header_words h) 1 0 ≡ h.id) × (get_or (header_words h) 2 0 ≡ corner_word h.id)
unfolding header_words
first_words h = (refl, refl, refl)

tests_pass : (size : ℕ) (ws : List ℕ) (h : Header) → header_of ws ≡ h → get_or ws 0 0 ≡ SIGNATURE → get_or ws 1 0 ≡ h.id → get_or ws 2 0 ≡ corner_word h.id → get_or ws 7 0 ≡ file_size h + 2 ^ 48 * h.modes → IsTileHeader h → file_size h ≡ size → AllPass (header_tests size ws)
tests_pass size ws h is w0 w1 w2 w7 good whole =
    let small = size_below h good in (
      eq-eqb _ _ w0,
      (
        ap names_tile w1 ∙ good.tile,
        (
          eq-eqb _ _ (w2 ∙ ap corner_word (sym w1)),
          (
            ap (λ (k : Header). leb k.nodes MOST_RECORDS && leb k.edges MOST_RECORDS) is ∙ and_from _ _ (le-leb _ _ good.few_nodes) (le-leb _ _ good.few_edges),
            (
              ap (λ (k : Header). leb k.transitions (2 * k.nodes)) is ∙ le-leb _ _ good.few_transitions,
              (
                ap (λ (k : Header). eqb (get_or ws 7 0 % 2 ^ 48) size && eqb (file_size k) size && are_modes k.modes) is
                    ∙ and_from _ _ (and_from _ _ (eq-eqb _ _ (ap (λ n. n % 2 ^ 48) w7 ∙ rest_of (file_size h) h.modes small ∙ whole)) (eq-eqb _ _ whole)) good.modes,
                tt,
              ),
            ),
          ),
        ),
      ),
    )

header_all_below : (h : Header) → IsTileHeader h → corner_word h.id < 2 ^ 64 → (i : ℕ) → get_or (header_words h) i 0 < 2 ^ 64
unfolding header_words
header_all_below h good corner =
    let id = id_below h.id good.tile in
    let m = modes_below h.modes good.modes in
    let small = size_below h good in
    let n : h.nodes < 2 ^ 32 = (let p = good.few_nodes in omega arith) in
    let d : h.edges < 2 ^ 32 = (let p = good.few_edges in omega arith) in
    let t : h.transitions < 2 ^ 32 = (let p = good.few_nodes in let q = good.few_transitions in omega arith) in
    eight_below SIGNATURE h.id (corner_word h.id) (h.nodes + 2 ^ 32 * h.edges) (h.transitions + 2 ^ 32 * h.chain_words) (h.sequence_words + 2 ^ 32 * h.texts) (h.info_bytes + 2 ^ 32 * h.text_bytes) (file_size h + 2 ^ 48 * h.modes)
    (omega arith) (omega arith) corner (halves_fit h.nodes h.edges n d) (halves_fit h.transitions h.chain_words t good.chain_words) (halves_fit h.sequence_words h.texts good.sequence_words good.texts)
    (halves_fit h.info_bytes h.text_bytes good.info_bytes good.text_bytes) (omega arith)

header_length : (h : Header) → length (header_words h) ≡ 8
unfolding header_words
header_length h = refl

abbrev header_from : ℕ → List ℕ → List ℕ → Result (Header × List ℕ) FailedCheck
header_from size ws left = cond (ltb size 64) (Err (Check 1 size)) (tested (header_tests size ws) (header_of ws, left))

from_passes : (size : ℕ) (ws left : List ℕ) (h : Header) → ltb size 64 ≡ false → AllPass (header_tests size ws) → header_of ws ≡ h → header_from size ws left ≡ Ok (h, left)
from_passes size ws left h long pass is =
    ap (λ b. cond b (Err (Check 1 size)) (tested (header_tests size ws) (header_of ws, left))) long
    ∙ tested_again (header_tests size ws) (header_of ws, left) pass ∙ ap (λ (k : Header). Ok (k, left)) is

read_again : (bytes : List ℕ) (ws : List ℕ) (h : Header) (rest : List ℕ) (size : ℕ) → words_in 8 bytes ≡ ws → length bytes ≡ size → drop 64 bytes ≡ rest → ltb size 64 ≡ false → AllPass (header_tests size ws) → header_of ws ≡ h → header_at bytes ≡ Ok (h, rest)
unfolding header_at
read_again bytes ws h rest size words len left long pass is =
    ap (λ n. header_from n (words_in 8 bytes) (drop 64 bytes)) len ∙ ap (λ l. header_from size l (drop 64 bytes)) words ∙ ap (λ l. header_from size ws l) left ∙ from_passes size ws rest h long pass is

pub header_again : (h : Header) (rest : List ℕ) → IsTileHeader h → corner_word h.id < 2 ^ 64 → length rest + 64 ≡ file_size h → header_at (words_bytes (header_words h) ++ rest) ≡ Ok (h, rest)
header_again h rest good corner size =
    let ws = header_words h in
    let bytes = words_bytes ws ++ rest in
    let len8 = header_length h in
    let words : words_in 8 bytes ≡ ws = ap (λ n. words_in n bytes) (sym len8) ∙ words_again ws rest (header_all_below h good corner) in
    let wl : length (words_bytes ws) ≡ 64 = omega (arith, words_bytes-length ws) in
    let len : length bytes ≡ file_size h = omega (arith, length-append (words_bytes ws) rest) in
    let long : ltb (file_size h) 64 ≡ false = le-ltb _ _ (omega arith) in
    let back = header_back h good in
    let f = first_words h in
    read_again bytes ws h rest (file_size h) words len (drop_at (words_bytes ws) rest 64 wl) long (tests_pass (file_size h) ws h back f.0 f.1 f.2 (word_of_size h) good refl) back
