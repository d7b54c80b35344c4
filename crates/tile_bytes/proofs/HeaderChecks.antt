-- The first check of a header that fails.
use Rattle.std.proofs.Common.{◌≡◌, ℕ, ◌<◌, ◌≤◌, Bool, true, false, cond, ltb, not, List, length, drop, Result, Ok, Err, refl, sym, ap, subst, ◌∙◌, arith}
use Rattle.std.proofs.lemmas.Bool.{ltb-true, ltb-false, lt-ltb}
use Rattle.section_grammar.specs.WordBytes.{words_in}
use Rattle.section_grammar.specs.Answers.{FailedCheck, Check}
use Rattle.section_grammar.proofs.Steps.{guard_ok}
use Rattle.section_grammar.proofs.Tells.{Tells, tells_test, tells_as, passed}
use Rattle.section_grammar.proofs.Judges.{Judges, judges_none, judges_test}
use Rattle.tile_bytes.specs.declared.header.Header.{Header}
use Rattle.tile_bytes.specs.Header.{header_of, has_signature, has_tile, has_corner, has_few_records, has_few_transitions, has_size, tested, header_tests, header_at}
use Rattle.tile_bytes.specs.TileChecks.{TileCheck, HeaderThere, Signature, TileNamed, CornerRight, FewRecords, FewTransitions, SizeRight, check_number, CheckFails, LacksHeader, first_words, header_in, from_nodes}
use Rattle.tile_bytes.proofs.CheckNumbers.{one_check}
use Rattle.tile_bytes.proofs.HeaderLaws.{tested_ok}

-- the header that is read is the one that the first words say
pub header_is : (bytes : List ℕ) (x : Header × List ℕ) → header_at bytes ≡ Ok x → x ≡ (header_in bytes, from_nodes bytes)
unfolding header_at
header_is bytes x e =
    let a = guard_ok (ltb (length bytes) 64) (Check 1 (length bytes)) (tested (header_tests (length bytes) (first_words bytes)) (header_in bytes, drop 64 bytes)) x e in
    sym (tested_ok (header_tests (length bytes) (first_words bytes)) (header_in bytes, drop 64 bytes) x a.1).1

length_tells : (bytes : List ℕ) → Tells 1 (LacksHeader bytes) (passed (not (ltb (length bytes) 64)) (Check 1 (length bytes)))
length_tells bytes =
    tells_as 1 (λ at. (not (ltb (length bytes) 64) ≡ false) × (at ≡ length bytes)) (LacksHeader bytes) (passed (not (ltb (length bytes) 64)) (Check 1 (length bytes)))
    (λ at h. (ltb-true _ _ (not_false (ltb (length bytes) 64) h.0), h.1)) (λ at h. (ap not (lt-ltb _ _ h.0), h.1)) (tells_test 1 (length bytes) (not (ltb (length bytes) 64)))
  where
    not_false : (b : Bool) → not b ≡ false → b ≡ true
    not_false true e = refl
    not_false false e = absurd cc

turned : {A : Type 0} (b : Bool) (d : FailedCheck) (r : Result A FailedCheck) → cond b (Err d) r ≡ cond (not b) r (Err d)
turned true d r = refl
turned false d r = refl

pub header_judges : (bytes : List ℕ) → Judges check_number (CheckFails bytes) 1 8 (header_at bytes)
unfolding header_at
header_judges bytes =
    let ws = first_words bytes in
    let size = length bytes in
    let found : Result (Header × List ℕ) FailedCheck = Ok (header_in bytes, drop 64 bytes) in
    let bad : ℕ → ℕ → Result (Header × List ℕ) FailedCheck = λ n at. Err (Check n at) in
    let t7 : Result (Header × List ℕ) FailedCheck = cond (has_size size ws) found (bad 7 56) in
    let t6 : Result (Header × List ℕ) FailedCheck = cond (has_few_transitions ws) t7 (bad 6 32) in
    let t5 : Result (Header × List ℕ) FailedCheck = cond (has_few_records ws) t6 (bad 5 24) in
    let t4 : Result (Header × List ℕ) FailedCheck = cond (has_corner ws) t5 (bad 4 16) in
    let t3 : Result (Header × List ℕ) FailedCheck = cond (has_tile ws) t4 (bad 3 8) in
    let t2 : Result (Header × List ℕ) FailedCheck = cond (has_signature ws) t3 (bad 2 0) in
    let j7 = judges_none check_number (CheckFails bytes) {A = Header × List ℕ} 8 (header_in bytes, drop 64 bytes) in
    let j6 = judges_test check_number (CheckFails bytes) SizeRight 56 8 (has_size size ws) found (λ other e. one_check other SizeRight e) (omega arith) (tells_test 7 56 (has_size size ws)) j7 in
    let j5 = judges_test check_number (CheckFails bytes) FewTransitions 32 8 (has_few_transitions ws) t7 (λ other e. one_check other FewTransitions e) (omega arith) (tells_test 6 32 (has_few_transitions ws)) j6 in
    let j4 = judges_test check_number (CheckFails bytes) FewRecords 24 8 (has_few_records ws) t6 (λ other e. one_check other FewRecords e) (omega arith) (tells_test 5 24 (has_few_records ws)) j5 in
    let j3 = judges_test check_number (CheckFails bytes) CornerRight 16 8 (has_corner ws) t5 (λ other e. one_check other CornerRight e) (omega arith) (tells_test 4 16 (has_corner ws)) j4 in
    let j2 = judges_test check_number (CheckFails bytes) TileNamed 8 8 (has_tile ws) t4 (λ other e. one_check other TileNamed e) (omega arith) (tells_test 3 8 (has_tile ws)) j3 in
    let j1 = judges_test check_number (CheckFails bytes) Signature 0 8 (has_signature ws) t3 (λ other e. one_check other Signature e) (omega arith) (tells_test 2 0 (has_signature ws)) j2 in
    subst (λ (r : Result (Header × List ℕ) FailedCheck). Judges check_number (CheckFails bytes) 1 8 r) (sym (turned (ltb size 64) (Check 1 size) t2))
    (judges_test check_number (CheckFails bytes) HeaderThere size 8 (not (ltb size 64)) t2 (λ other e. one_check other HeaderThere e) (omega arith) (length_tells bytes) j1)
