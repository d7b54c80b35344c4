-- Offsets within the bytes of entries.
use Rattle.std.proofs.Common.{◌≡◌, ◌∙◌, ℕ, zero, suc, ◌+◌, ◌<◌, ◌≤◌, true, refl, ap, List, [], ◌∷◌, length, get_or, arith, eq-eqb}
use Rattle.std.specs.Prelude.{All, nat_eq}
use Rattle.std.proofs.lemmas.Bool.{or_left, or_right}
use Rattle.std.proofs.lemmas.List.{length-append}
use Rattle.std.proofs.lemmas.List.Concat.{flat_map-cons}
use Rattle.std.proofs.lemmas.List.Elements.{All-nil, All-cons}
use Rattle.edge_info.specs.declared.infos.Info.{Info}
use Rattle.edge_info.specs.Entries.{info_bytes, infos_bytes, starts_from, starts_of, starts_at}

pub starts_many : (at : ℕ) (infos : List Info) → length (starts_from at infos) ≡ length infos
starts_many at [] = refl
starts_many at (i ∷ is) = ap suc (starts_many (at + length (info_bytes i)) is)

starts_low : (at limit : ℕ) (infos : List Info) → at + length (infos_bytes infos) ≤ limit → All (λ s. s ≤ limit) (starts_from at infos)
starts_low at limit [] h = All-nil (λ s. s ≤ limit)
starts_low at limit (i ∷ is) h =
    let size : length (infos_bytes (i ∷ is)) ≡ length (info_bytes i) + length (infos_bytes is) = ap length (flat_map-cons info_bytes i is) ∙ length-append (info_bytes i) (infos_bytes is) in
    All-cons (λ s. s ≤ limit) at (starts_from (at + length (info_bytes i)) is) (omega (arith, h)) (starts_low (at + length (info_bytes i)) limit is (omega (arith, h, size)))

-- no entry starts behind the end of all
pub starts_below : (infos : List Info) (limit : ℕ) → length (infos_bytes infos) < limit → All (λ s. s < limit) (starts_of infos)
starts_below infos limit h = λ k d inside. let low = starts_low 0 (length (infos_bytes infos)) infos (omega arith) k d inside in omega (arith, low, h)

pub starts_have : (starts : List ℕ) (k : ℕ) → k < length starts → starts_at starts (get_or starts k 0) ≡ true
starts_have [] k h = absurd (omega (arith, h))
starts_have (s ∷ ss) zero h = or_left (nat_eq s s) (starts_at ss s) (eq-eqb s s refl)
starts_have (s ∷ ss) (suc k) h = or_right (nat_eq (get_or ss k 0) s) (starts_at ss (get_or ss k 0)) (starts_have ss k (omega (arith, h)))
