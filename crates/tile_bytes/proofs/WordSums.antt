-- The words of one chain or sequence more.
use Rattle.std.proofs.Common.{◌≡◌, ℕ, zero, suc, ◌+◌, ◌<◌, List, [], ◌∷◌, length, get_or, take, sym, ap, ◌∙◌, arith}
use Rattle.tile_bytes.specs.declared.sequences.Sequence.{Sequence}
use Rattle.tile_bytes.specs.Chains.{words_of_chains}
use Rattle.tile_bytes.specs.Sequences.{words_of_sequences}

chains_suc : (chains : List (List ℕ)) (i : ℕ) (none : List ℕ) → i < length chains → words_of_chains (take (suc i) chains) ≡ words_of_chains (take i chains) + (1 + length (get_or chains i none))
chains_suc [] i none lt = absurd (omega arith)
chains_suc (c ∷ cs) zero none lt = omega arith
chains_suc (c ∷ cs) (suc i) none lt = omega (arith, chains_suc cs i none (omega arith))

pub chains_one_more : (chains : List (List ℕ)) (i words : ℕ) (ids none : List ℕ) → i < length chains → ids ≡ get_or chains i none → words ≡ words_of_chains (take i chains)
    → words + (1 + length ids) ≡ words_of_chains (take (i + 1) chains)
chains_one_more chains i words ids none lt here so_far =
    let k : i + 1 ≡ suc i = omega arith in
    let more = chains_suc chains i none lt in
    let size : length ids ≡ length (get_or chains i none) = ap length here in
    let next : words_of_chains (take (suc i) chains) ≡ words + (1 + length ids) = omega (arith, more, size, so_far) in
    sym (ap (λ n. words_of_chains (take n chains)) k ∙ next)

sequences_suc : (sequences : List Sequence) (i : ℕ) (none : Sequence) → i < length sequences → words_of_sequences (take (suc i) sequences) ≡ words_of_sequences (take i sequences) + (1 + length (get_or sequences i none).edges)
sequences_suc [] i none lt = absurd (omega arith)
sequences_suc (s ∷ ss) zero none lt = omega arith
sequences_suc (s ∷ ss) (suc i) none lt = omega (arith, sequences_suc ss i none (omega arith))

pub sequences_one_more : (sequences : List Sequence) (i words : ℕ) (ids : List ℕ) (none : Sequence) → i < length sequences → ids ≡ (get_or sequences i none).edges → words ≡ words_of_sequences (take i sequences)
    → words + (1 + length ids) ≡ words_of_sequences (take (i + 1) sequences)
sequences_one_more sequences i words ids none lt here so_far =
    let k : i + 1 ≡ suc i = omega arith in
    let more = sequences_suc sequences i none lt in
    let size : length ids ≡ length (get_or sequences i none).edges = ap length here in
    let next : words_of_sequences (take (suc i) sequences) ≡ words + (1 + length ids) = omega (arith, more, size, so_far) in
    sym (ap (λ n. words_of_sequences (take n sequences)) k ∙ next)
