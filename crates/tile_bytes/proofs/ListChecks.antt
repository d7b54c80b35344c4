-- The first chain, offset of a chain or sequence that fails.
use Rattle.std.proofs.Common.{◌≡◌, ◌≢◌, ℕ, zero, suc, ◌+◌, ◌-◌, ◌*◌, ◌/◌, ◌%◌, ◌^◌, ◌<◌, ◌≤◌, Bool, true, false, cond, ltb, eqb, ◌||◌, List, [], ◌∷◌, ◌++◌, length, take, drop, get_or, Result, Ok, Err, refl, sym, ap, subst, ◌∙◌, ◌⊎◌, inl, inr, arith}
use Rattle.std.specs.List.{flat_map}
use Rattle.std.proofs.lemmas.Bool.{ltb-true, ltb-false, lt-ltb, eqb-true, eqb-false, eq-eqb, ne_eqb, or_cases, or_parts}
use Rattle.std.proofs.lemmas.List.{append-nil, length-append, length-drop}
use Rattle.graph_id.specs.GraphId.{level_of}
use Rattle.tile_records.specs.Edges.{EdgeFields}
use Rattle.section_grammar.specs.WordBytes.{IsByteList, word_in, word_bytes}
use Rattle.section_grammar.specs.Reads.{◌>>=◌, read_many, read_all, AllGood}
use Rattle.section_grammar.specs.Answers.{FailedCheck, Check, place_of, ended}
use Rattle.section_grammar.specs.FirstFailing.{IsFewerThan, HasMore, ItemFails, IsOverfull, FailsFrom}
use Rattle.section_grammar.proofs.ByteLists.{IsByteList-drop, IsByteList-take}
use Rattle.section_grammar.proofs.Steps.{ok_is}
use Rattle.section_grammar.proofs.Tells.{Tells, tells_as, tells_bind, tells_either, tells_guarded, tells_allowed, filled_tells, all_tells}
use Rattle.tile_bytes.specs.declared.ids.LevelRule.TheVariants as rules
use Rattle.tile_bytes.specs.declared.header.Header.{Header}
use Rattle.tile_bytes.specs.declared.sequences.Sequence.{Sequence}
use Rattle.tile_bytes.specs.Items.{id_at}
use Rattle.tile_bytes.specs.Chains.{chain_bytes, IsTileChain, chain_at, chains_at, named_chains, chain_offsets, offsets_at}
use Rattle.tile_bytes.specs.Sequences.{sequence_bytes, IsTileSequence, first_word_passes, sequence_at, sequences_at}
use Rattle.tile_bytes.specs.TileSections.{chains_in_place}
use Rattle.tile_bytes.specs.TileChecks.{IdFails, CountFails, ChainIdFails, ChainFails, OffsetDiffers, OffsetFails, FirstWordFails, SequenceIdFails, SequenceFails}
use Rattle.tile_bytes.proofs.ChainLaws.{chains_reader}
use Rattle.tile_bytes.proofs.SequenceLaws.{sequences_reader, sequence_some}
use Rattle.tile_bytes.proofs.ListSections.{chains_take, chains_again, offsets-length}
use Rattle.tile_bytes.proofs.SequenceSteps.{made_of}
use Rattle.tile_bytes.proofs.RecordChecks.{ids_tell}

-- ---- a chain

-- places behind the first word
behind_word : (end at offset within : ℕ) (rest : List ℕ) → 8 ≤ length rest → length rest ≤ end → at ≡ place_of end rest + offset → offset ≡ 8 + within → at ≡ place_of end (drop 8 rest) + within
behind_word end at offset within rest whole le h e = omega (arith, length-drop 8 rest, whole, le, h, e)

before_word : (end at within : ℕ) (rest : List ℕ) → 8 ≤ length rest → length rest ≤ end → at ≡ place_of end (drop 8 rest) + within → at ≡ place_of end rest + (8 + within)
before_word end at within rest whole le h = omega (arith, length-drop 8 rest, whole, le, h)

module _ (level end : ℕ) (before : List (List ℕ)) (rest : List ℕ) (fits : IsByteList rest) (le : length rest ≤ end) where
  abbrev Fault : ℕ → Type 0
  Fault = FailsFrom (place_of end rest) (ChainFails level before rest)

  no_count : (length rest < 8) ⊎ (word_in rest < 2) ⊎ (length (drop 8 rest) < 8 * word_in rest) → Fault (place_of end rest)
  no_count wrong = record { offset = 0; fails_so = inl (record { wrong = wrong; here = refl }); here = omega arith }

  -- where the count is wrong there is no other fault
  count_only : (8 ≤ length rest → 2 ≤ word_in rest → 8 * word_in rest ≤ length (drop 8 rest) → ⊥) → (at : ℕ) → Fault at → at ≡ place_of end rest
  count_only wrong at f = elim f.fails_so [
    | inl c ↦ omega (arith, f.here, c.here)
    | inr i ↦ absurd (wrong i.whole i.two i.room)
  ]

  id_of : (8 ≤ length rest) → (2 ≤ word_in rest) → (8 * word_in rest ≤ length (drop 8 rest)) → (at : ℕ) → Fault at → FailsFrom (place_of end (drop 8 rest)) (IdFails (rules.Only level) (word_in rest) (drop 8 rest)) at
  id_of whole two room at f = elim f.fails_so [
    | inl c ↦ absurd (elim c.wrong [ inl a ↦ omega (arith, a, whole) | inr w ↦ elim w [ inl a ↦ omega (arith, a, two) | inr a ↦ omega (arith, a, room) ] ])
    | inr i ↦ record { offset = i.within; fails_so = i.fails_so; here = behind_word end at f.offset i.within rest whole le f.here i.here }
  ]

  of_id : (8 ≤ length rest) → (2 ≤ word_in rest) → (8 * word_in rest ≤ length (drop 8 rest)) → (at : ℕ) → FailsFrom (place_of end (drop 8 rest)) (IdFails (rules.Only level) (word_in rest) (drop 8 rest)) at → Fault at
  of_id whole two room at g = record {
    offset = 8 + g.offset;
    fails_so = inr (record { whole = whole; two = two; room = room; within = g.offset; fails_so = g.fails_so; here = refl });
    here = before_word end at g.offset rest whole le g.here;
  }

  pub chain_tells : Tells 11 Fault (chain_at level end before rest)
  unfolding chain_at
  chain_tells =
      let w = word_in rest in
      let ids = read_many (id_at (rules.Only level) 11 end) w [] (drop 8 rest) in
      let tests = ltb w 2 || ltb (length (drop 8 rest)) (8 * w) in
      let place = place_of end rest in
      tells_guarded 11 place (ltb (length rest) 8) (cond tests (Err (Check 11 place)) ids) Fault Fault (λ t. no_count (inl (ltb-true _ _ t)))
      (λ t. count_only (λ whole two room. (let cut = ltb-true _ _ t in omega (arith, cut, whole)))) (λ t at f. f) (λ t at f. f)
      (λ t.
      let whole : 8 ≤ length rest = ltb-false _ _ t in
      tells_guarded 11 place tests ids Fault (FailsFrom (place_of end (drop 8 rest)) (IdFails (rules.Only level) w (drop 8 rest)))
      (λ b. elim (or_cases (ltb w 2) (ltb (length (drop 8 rest)) (8 * w)) b) [ inl a ↦ no_count (inr (inl (ltb-true _ _ a))) | inr a ↦ no_count (inr (inr (ltb-true _ _ a))) ])
      (λ b. elim (or_cases (ltb w 2) (ltb (length (drop 8 rest)) (8 * w)) b) [
        | inl a ↦ count_only (λ whole two room. (let few = ltb-true _ _ a in omega (arith, few, two)))
        | inr a ↦ count_only (λ whole two room. (let short = ltb-true _ _ a in omega (arith, short, room)))
      ])
      (λ b. (let p = or_parts (ltb w 2) (ltb (length (drop 8 rest)) (8 * w)) b in id_of whole (ltb-false _ _ p.0) (ltb-false _ _ p.1)))
      (λ b. (let p = or_parts (ltb w 2) (ltb (length (drop 8 rest)) (8 * w)) b in of_id whole (ltb-false _ _ p.0) (ltb-false _ _ p.1)))
      (λ b. ids_tell (rules.Only level) 11 end w (drop 8 rest) (IsByteList-drop 8 rest fits) (omega (arith, length-drop 8 rest, le))))

-- ---- where chains begin

named_more : (e : EdgeFields) (es : List EdgeFields) → e.shortcut ≡ true → named_chains (e ∷ es) ≡ e.chain ∷ named_chains es
named_more e es h = ap (λ b. cond b (e.chain ∷ named_chains es) (named_chains es)) h

named_same : (e : EdgeFields) (es : List EdgeFields) → e.shortcut ≡ false → named_chains (e ∷ es) ≡ named_chains es
named_same e es h = ap (λ b. cond b (e.chain ∷ named_chains es) (named_chains es)) h

abbrev OffsetFault : ℕ → List EdgeFields → List ℕ → FailedCheck → Type 0
OffsetFault at es offs d = (o : ℕ) × OffsetDiffers es offs o × (d ≡ Check 11 (at + o))

err_is : (d d' : FailedCheck) → ◌≡◌ {A = Result (Unit {0}) FailedCheck} (Err d) (Err d') → d ≡ d'
err_is d d' e = cc

-- one edge before the others
later_offset : (at : ℕ) (e : EdgeFields) (es : List EdgeFields) (offs all : List ℕ) (d : FailedCheck) → ((more : List EdgeFields) (tail : List ℕ) → offs ≡ named_chains more ++ tail → all ≡ named_chains (e ∷ more) ++ tail)
    → OffsetFault (at + 32) es offs d → OffsetFault at (e ∷ es) all d
later_offset at e es offs all d grown m =
    let place : at + 32 + m.0 ≡ at + (32 + m.0) = omega arith in (
      32 + m.0,
      record {
        front = e ∷ m.1.front;
        edge = m.1.edge;
        back = m.1.back;
        edges_are = ap (λ l. e ∷ l) m.1.edges_are;
        shortcut = m.1.shortcut;
        offset = m.1.offset;
        others = m.1.others;
        offsets_are = grown m.1.front (m.1.offset ∷ m.1.others) m.1.offsets_are;
        wrong = m.1.wrong;
        here = (let h = m.1.here in omega (arith, h));
      },
      m.2 ∙ ap (λ n. Check 11 n) place,
    )

told_step : (at : ℕ) (e : EdgeFields) (es : List EdgeFields) (d : FailedCheck) (b : Bool) (offs : List ℕ) → e.shortcut ≡ b
    → ((offs : List ℕ) → offsets_at (at + 32) es offs ≡ Err d → length offs ≡ length (named_chains es) → OffsetFault (at + 32) es offs d)
    → cond b (cond (eqb e.chain (get_or offs 0 0)) (offsets_at (at + 32) es (drop 1 offs)) (Err (Check 11 at))) (offsets_at (at + 32) es offs) ≡ Err d
    → length offs ≡ length (cond b (e.chain ∷ named_chains es) (named_chains es)) → OffsetFault at (e ∷ es) offs d
told_step at e es d true [] is more h len = absurd (omega arith)
told_step at e es d true (o ∷ os) is more h len =
    (elim (eqb e.chain o) as (λ t. eqb e.chain o ≡ t → cond t (offsets_at (at + 32) es os) (Err (Check 11 at)) ≡ Err d → OffsetFault at (e ∷ es) (o ∷ os) d) [
      | true ↦ λ t k.
          (let same : o ≡ e.chain = sym (eqb-true _ _ t) in
          later_offset at e es os (o ∷ os) d (λ fs tail r. ap (λ l. o ∷ l) r ∙ ap (λ n. n ∷ (named_chains fs ++ tail)) same ∙ ap (λ l. l ++ tail) (sym (named_more e fs is))) (more os k (omega arith)))
      | false ↦ λ t k.
          (let place : at ≡ at + 0 = omega arith in (
            0,
            record { front = []; edge = e; back = es; edges_are = refl; shortcut = is; offset = o; others = os; offsets_are = refl; wrong = eqb-false _ _ t; here = refl },
            sym (err_is (Check 11 at) d k) ∙ ap (λ n. Check 11 n) place,
          ))
    ]) refl h
told_step at e es d false offs is more h len = later_offset at e es offs offs d (λ fs tail r. r ∙ ap (λ l. l ++ tail) (sym (named_same e fs is))) (more offs h len)

offsets_told : (at : ℕ) (es : List EdgeFields) (offs : List ℕ) (d : FailedCheck) → offsets_at at es offs ≡ Err d → length offs ≡ length (named_chains es) → OffsetFault at es offs d
unfolding offsets_at
offsets_told at [] offs d h len = absurd cc
offsets_told at (e ∷ es) offs d h len = told_step at e es d e.shortcut offs refl (λ rest k n. offsets_told (at + 32) es rest d k n) h len

so_step : (at : ℕ) (e : EdgeFields) (es : List EdgeFields) (ns tail : List ℕ) (b : Bool) (r : Result (Unit {0}) FailedCheck) → offsets_at (at + 32) es (ns ++ tail) ≡ r
    → cond b (cond (eqb e.chain (get_or (cond b (e.chain ∷ ns) ns ++ tail) 0 0)) (offsets_at (at + 32) es (drop 1 (cond b (e.chain ∷ ns) ns ++ tail))) (Err (Check 11 at))) (offsets_at (at + 32) es (cond b (e.chain ∷ ns) ns ++ tail)) ≡ r
so_step at e es ns tail true r more = ap (λ t. cond t (offsets_at (at + 32) es (ns ++ tail)) (Err (Check 11 at))) (eq-eqb e.chain e.chain refl) ∙ more
so_step at e es ns tail false r more = more

offsets_so : (at : ℕ) (front : List EdgeFields) (edge : EdgeFields) (back : List EdgeFields) (offset : ℕ) (others : List ℕ) → edge.shortcut ≡ true → (edge.chain ≡ offset → ⊥)
    → offsets_at at (front ++ edge ∷ back) (named_chains front ++ offset ∷ others) ≡ Err (Check 11 (at + 32 * length front))
unfolding offsets_at
offsets_so at [] edge back offset others is wrong =
    let place : at ≡ at + 32 * 0 = omega arith in
    rw (is, ne_eqb edge.chain offset wrong) (ap (λ n. Err (Check 11 n)) place)
offsets_so at (e ∷ es) edge back offset others is wrong =
    let more = offsets_so (at + 32) es edge back offset others is wrong in
    let place : at + 32 + 32 * length es ≡ at + 32 * suc (length es) = omega arith in
    so_step at e (es ++ edge ∷ back) (named_chains es) (offset ∷ others) e.shortcut (Err (Check 11 (at + 32 * suc (length es)))) (more ∙ ap (λ n. Err (Check 11 n)) place)

pub offsets_tell : (at : ℕ) (es : List EdgeFields) (offs : List ℕ) → length offs ≡ length (named_chains es) → Tells 11 (FailsFrom at (OffsetDiffers es offs)) (offsets_at at es offs)
offsets_tell at es offs len = record {
  told = λ d e. (let t = offsets_told at es offs d e len in (at + t.0, record { offset = t.0; fails_so = t.1; here = refl }, t.2));
  so = λ place g.
      let f = g.fails_so in
      let there : at + 32 * length f.front ≡ place = omega (arith, f.here, g.here) in
      ap (λ l. offsets_at at l offs) f.edges_are ∙ ap (λ l. offsets_at at (f.front ++ f.edge ∷ f.back) l) f.offsets_are ∙ offsets_so at f.front f.edge f.back f.offset f.others f.shortcut f.wrong ∙ ap (λ n. Err (Check 11 n)) there;
}

-- ---- the chain section

abbrev ChainsFault : ℕ → ℕ → List EdgeFields → List ℕ → ℕ → Type 0
ChainsFault level end edges section at =
    FailsFrom (place_of end section) (ItemFails chain_bytes (IsTileChain level) (IsFewerThan (length (named_chains edges))) (ChainFails level) section) at
    ⊎ FailsFrom (place_of end section) (IsOverfull chain_bytes (IsTileChain level) (length (named_chains edges)) section) at

chains_tell : (level end : ℕ) (edges : List EdgeFields) (section : List ℕ) → IsByteList section → length section ≤ end → Tells 11 (ChainsFault level end edges section) (chains_at level end (length (named_chains edges)) section)
unfolding chains_at
chains_tell level end edges section fits le =
    filled_tells (chain_at level end) chain_bytes (IsTileChain level) (chains_reader level end) 11 end (ChainFails level) (chain_tells level end) (length (named_chains edges)) section fits le

pub section_tells : (h : Header) (edges : List EdgeFields) (end : ℕ) (section : List ℕ) → IsByteList section → length section ≤ end
    → Tells 11 (λ at. ChainsFault (level_of h.id) end edges section at ⊎ FailsFrom (64 + 32 * h.nodes) (OffsetFails (level_of h.id) edges section) at) (chains_in_place h edges end section)
unfolding chains_in_place
section_tells h edges end section fits le =
    let level = level_of h.id in
    let count = length (named_chains edges) in
    let from = 64 + 32 * h.nodes in
    let reached : (at : ℕ) (f : OffsetFails level edges section at) → chains_at level end count section ≡ Ok f.chains = λ at f.
    ap (λ n. chains_at level end n section) (sym f.all) ∙ ap (chains_at level end (length f.chains)) f.spelled ∙ chains_again level end f.chains f.each_good in
    tells_either 11 (ChainsFault level end edges section) (FailsFrom from (OffsetFails level edges section)) (chains_at level end count section) (λ chains. offsets_at from edges (chain_offsets 0 chains) >>= λ _. Ok chains)
    (chains_tell level end edges section fits le)
    (λ chains e.
    let took = chains_take level end count section chains fits e in
    let offsets = offsets_tell from edges (chain_offsets 0 chains) (offsets-length 0 chains ∙ took.2) in
    tells_as 11 (FailsFrom from (OffsetDiffers edges (chain_offsets 0 chains))) (FailsFrom from (OffsetFails level edges section)) (offsets_at from edges (chain_offsets 0 chains) >>= λ _. Ok chains)
    (λ at g. record { offset = g.offset; fails_so = record { chains = chains; each_good = took.0; all = took.2; spelled = took.1; differs = g.fails_so }; here = g.here })
    (λ at g.
    let f = g.fails_so in
    let same : f.chains ≡ chains = ok_is {F = FailedCheck} f.chains chains (sym (reached g.offset f) ∙ e) in
    record { offset = g.offset; fails_so = subst (λ (c : List (List ℕ)). OffsetDiffers edges (chain_offsets 0 c) g.offset) same f.differs; here = g.here })
    (tells_bind 11 (FailsFrom from (OffsetDiffers edges (chain_offsets 0 chains))) (offsets_at from edges (chain_offsets 0 chains)) (λ _. chains) offsets))
    (λ at g. (g.fails_so.chains, reached g.offset g.fails_so))

-- ---- sequences

module _ (end : ℕ) (before : List Sequence) (rest : List ℕ) (fits : IsByteList rest) (le : length rest ≤ end) where
  abbrev SequenceFault : ℕ → Type 0
  SequenceFault = FailsFrom (place_of end rest) (SequenceFails before rest)

  abbrev IdFault : ℕ → Type 0
  IdFault = FailsFrom (place_of end (drop 8 rest)) (IdFails rules.Any (word_in rest % 2 ^ 16) (drop 8 rest))

  no_first : (length rest < 8) ⊎ (first_word_passes before rest ≡ false) → SequenceFault (place_of end rest)
  no_first wrong = record { offset = 0; fails_so = inl (record { wrong = wrong; here = refl }); here = omega arith }

  first_only : (8 ≤ length rest → first_word_passes before rest ≡ true → ⊥) → (at : ℕ) → SequenceFault at → at ≡ place_of end rest
  first_only wrong at f = elim f.fails_so [
    | inl c ↦ omega (arith, f.here, c.here)
    | inr i ↦ absurd (wrong i.whole i.passes)
  ]

  to_id : (8 ≤ length rest) → (first_word_passes before rest ≡ true) → (at : ℕ) → SequenceFault at → IdFault at
  to_id whole passes at f = elim f.fails_so [
    | inl c ↦ absurd (elim c.wrong [ inl a ↦ omega (arith, a, whole) | inr a ↦ (let clash : true ≡ false = sym passes ∙ a in cc) ])
    | inr i ↦ record { offset = i.within; fails_so = i.fails_so; here = behind_word end at f.offset i.within rest whole le f.here i.here }
  ]

  from_id : (8 ≤ length rest) → (first_word_passes before rest ≡ true) → (at : ℕ) → IdFault at → SequenceFault at
  from_id whole passes at g = record {
    offset = 8 + g.offset;
    fails_so = inr (record { whole = whole; passes = passes; within = g.offset; fails_so = g.fails_so; here = refl });
    here = before_word end at g.offset rest whole le g.here;
  }

  sequence_tells : Tells 12 SequenceFault (sequence_at end before rest)
  unfolding sequence_at
  sequence_tells =
      let w = word_in rest in
      let ids = read_many (id_at rules.Any 12 end) (w % 2 ^ 16) [] (drop 8 rest) in
      let place = place_of end rest in
      let made : List ℕ × List ℕ → Sequence × List ℕ = λ x. (record { edges = x.0; modes = w / 2 ^ 16 % 2 ^ 16 }, x.1) in
      tells_guarded 12 place (ltb (length rest) 8) (cond (first_word_passes before rest) (ids >>= λ x. Ok (made x)) (Err (Check 12 place))) SequenceFault SequenceFault (λ t. no_first (inl (ltb-true _ _ t)))
      (λ t. first_only (λ whole passes. (let cut = ltb-true _ _ t in omega (arith, cut, whole)))) (λ t at f. f) (λ t at f. f)
      (λ t.
      let whole : 8 ≤ length rest = ltb-false _ _ t in
      tells_allowed 12 place (first_word_passes before rest) (ids >>= λ x. Ok (made x)) SequenceFault IdFault (λ b. no_first (inr b))
      (λ b. first_only (λ whole passes. (let clash : true ≡ false = sym passes ∙ b in cc))) (λ b. to_id whole b) (λ b. from_id whole b)
      (λ b. tells_bind 12 IdFault ids made (ids_tell rules.Any 12 end (w % 2 ^ 16) (drop 8 rest) (IsByteList-drop 8 rest fits) (omega (arith, length-drop 8 rest, le)))))

pub sequences_tell : (end : ℕ) (section : List ℕ) → IsByteList section → length section ≤ end
    → Tells 12 (FailsFrom (place_of end section) (ItemFails sequence_bytes IsTileSequence HasMore SequenceFails section)) (sequences_at end section)
sequences_tell end section fits le = all_tells (sequence_at end) sequence_bytes IsTileSequence (sequences_reader end) 12 end SequenceFails (sequence_tells end) sequence_some section fits le
