-- Where chains begin, one edge after the other.
use Rattle.std.proofs.Common.{◌≡◌, ℕ, suc, ◌+◌, ◌<◌, true, false, eqb, List, [], ◌∷◌, length, get_or, drop, Ok, Err, refl, sym, ap, ◌∙◌, arith}
use Rattle.std.proofs.lemmas.List.{length-drop}
use Rattle.std.proofs.Math.Seq.{drop-cons}
use Rattle.tile_records.specs.Edges.{EdgeFields}
use Rattle.section_grammar.specs.Answers.{Check}
use Rattle.tile_bytes.specs.Chains.{chain_offsets, offsets_at}

pub offsets_skip : (at : ℕ) (e : EdgeFields) (es : List EdgeFields) (offsets : List ℕ) → e.shortcut ≡ false → offsets_at at (e ∷ es) offsets ≡ offsets_at (at + 32) es offsets
unfolding offsets_at
offsets_skip at e es offsets base = rw base refl

first_wrong : (at : ℕ) (e : EdgeFields) (es : List EdgeFields) (o : ℕ) (chains : List (List ℕ)) → 0 < length chains → e.shortcut ≡ true → eqb e.chain o ≡ false → offsets_at at (e ∷ es) (chain_offsets o chains) ≡ Err (Check 11 at)
unfolding offsets_at
first_wrong at e es o [] some is wrong = absurd (omega arith)
first_wrong at e es o (c ∷ cs) some is wrong = rw (is, wrong) refl

pub offset_wrong : (at : ℕ) (e : EdgeFields) (es : List EdgeFields) (o next : ℕ) (chains : List (List ℕ)) → next < length chains → e.shortcut ≡ true → eqb e.chain o ≡ false → offsets_at at (e ∷ es) (chain_offsets o (drop next chains)) ≡ Err (Check 11 at)
offset_wrong at e es o next chains lt is wrong = first_wrong at e es o (drop next chains) (omega (arith, length-drop next chains)) is wrong

first_right : (at : ℕ) (e : EdgeFields) (es : List EdgeFields) (o : ℕ) (c : List ℕ) (cs : List (List ℕ)) → e.shortcut ≡ true → eqb e.chain o ≡ true → offsets_at at (e ∷ es) (chain_offsets o (c ∷ cs)) ≡ offsets_at (at + 32) es (chain_offsets (o + (1 + length c)) cs)
unfolding offsets_at
first_right at e es o c cs is right = rw (is, right) refl

pub offset_right : (at : ℕ) (e : EdgeFields) (es : List EdgeFields) (o next : ℕ) (chains : List (List ℕ)) (c none : List ℕ) → next < length chains → e.shortcut ≡ true → eqb e.chain o ≡ true → c ≡ get_or chains next none
    → offsets_at at (e ∷ es) (chain_offsets o (drop next chains)) ≡ offsets_at (at + 32) es (chain_offsets (o + (1 + length c)) (drop (next + 1) chains))
offset_right at e es o next chains c none lt is right here =
    let k : next + 1 ≡ suc next = omega arith in
    let parts : drop next chains ≡ get_or chains next none ∷ drop (suc next) chains = drop-cons chains next none lt in
    ap (λ cs. offsets_at at (e ∷ es) (chain_offsets o cs)) parts
    ∙ first_right at e es o (get_or chains next none) (drop (suc next) chains) is right
    ∙ ap (λ n. offsets_at (at + 32) es (chain_offsets (o + (1 + length (get_or chains next none))) (drop n chains))) (sym k)
    ∙ ap (λ l. offsets_at (at + 32) es (chain_offsets (o + (1 + length l)) (drop (next + 1) chains))) (sym here)

pub offsets_done : (at : ℕ) (es : List EdgeFields) (offsets : List ℕ) → length es ≡ 0 → offsets_at at es offsets ≡ Ok tt
unfolding offsets_at
offsets_done at [] offsets none = refl
offsets_done at (e ∷ es) offsets none = absurd (omega arith)
