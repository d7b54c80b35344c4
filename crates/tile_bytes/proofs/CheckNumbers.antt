-- The checks of a tile and their numbers.
use Rattle.std.proofs.Common.{◌≡◌, ℕ, ◌<◌, ◌≤◌, cond, eqb, refl, sym, ap, ◌∙◌, arith}
use Rattle.tile_bytes.specs.TileChecks.{TileCheck, HeaderThere, Signature, TileNamed, CornerRight, FewRecords, FewTransitions, SizeRight, NodesGood, EdgesGood, TransitionsGood, ChainsGood, SequencesGood, EntriesGood, EdgesHaveEntries, TextsGood, PaddingZero, check_number}

abbrev numbered : ℕ → TileCheck
numbered n =
    cond (eqb n 1) HeaderThere (cond (eqb n 2) Signature (cond (eqb n 3) TileNamed (cond (eqb n 4) CornerRight (cond (eqb n 5) FewRecords (cond (eqb n 6) FewTransitions (cond (eqb n 7) SizeRight
    (cond (eqb n 8) NodesGood (cond (eqb n 9) EdgesGood (cond (eqb n 10) TransitionsGood (cond (eqb n 11) ChainsGood (cond (eqb n 12) SequencesGood (cond (eqb n 13) EntriesGood
    (cond (eqb n 14) EdgesHaveEntries (cond (eqb n 15) TextsGood PaddingZero))))))))))))))

numbered_back : (check : TileCheck) → numbered (check_number check) ≡ check
numbered_back HeaderThere = refl
numbered_back Signature = refl
numbered_back TileNamed = refl
numbered_back CornerRight = refl
numbered_back FewRecords = refl
numbered_back FewTransitions = refl
numbered_back SizeRight = refl
numbered_back NodesGood = refl
numbered_back EdgesGood = refl
numbered_back TransitionsGood = refl
numbered_back ChainsGood = refl
numbered_back SequencesGood = refl
numbered_back EntriesGood = refl
numbered_back EdgesHaveEntries = refl
numbered_back TextsGood = refl
numbered_back PaddingZero = refl

-- a number is that of one check
pub one_check : (a b : TileCheck) → check_number a ≡ check_number b → a ≡ b
one_check a b e = sym (numbered_back a) ∙ ap numbered e ∙ numbered_back b

pub numbers_within : (check : TileCheck) → (1 ≤ check_number check) × (check_number check < 17)
numbers_within HeaderThere = (omega arith, omega arith)
numbers_within Signature = (omega arith, omega arith)
numbers_within TileNamed = (omega arith, omega arith)
numbers_within CornerRight = (omega arith, omega arith)
numbers_within FewRecords = (omega arith, omega arith)
numbers_within FewTransitions = (omega arith, omega arith)
numbers_within SizeRight = (omega arith, omega arith)
numbers_within NodesGood = (omega arith, omega arith)
numbers_within EdgesGood = (omega arith, omega arith)
numbers_within TransitionsGood = (omega arith, omega arith)
numbers_within ChainsGood = (omega arith, omega arith)
numbers_within SequencesGood = (omega arith, omega arith)
numbers_within EntriesGood = (omega arith, omega arith)
numbers_within EdgesHaveEntries = (omega arith, omega arith)
numbers_within TextsGood = (omega arith, omega arith)
numbers_within PaddingZero = (omega arith, omega arith)
