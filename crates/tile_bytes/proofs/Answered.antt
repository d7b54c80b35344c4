-- What the reader's answers say of the bytes.
use Rattle.std.proofs.Common.{◌≡◌, ℕ, List, Result, Ok, Err, sym, subst}
use Rattle.std.specs.Prelude.{IfOk, IfErr}
use Rattle.section_grammar.specs.declared.fault.SectionFault.{SectionFault}
use Rattle.section_grammar.specs.declared.fault.SectionFault.TheVariants as faults
use Rattle.section_grammar.specs.Answers.{FailedCheck, Check, Gives}
use Rattle.edge_info.specs.declared.infos.Info.{Info}
use Rattle.edge_info.specs.Entries.{infos_bytes}
use Rattle.edge_info.specs.EntryReading.{entries_at}
use Rattle.tile_bytes.specs.declared.tile.Tile.{Tile}
use Rattle.tile_bytes.specs.Tiles.{TileSpelled}
use Rattle.tile_bytes.specs.TileReading.{tile_at}
use Rattle.tile_bytes.specs.TileChecks.{TileCheck, check_number, IsFirstFailing, IsFirstFault}

pub is_found : (bytes : List ℕ) (r : Result Tile SectionFault) → ((tile : Tile) → tile_at bytes ≡ Ok tile → TileSpelled bytes tile) → Gives (λ (t : Tile). t) r (tile_at bytes) → IfOk r (λ tile. TileSpelled bytes tile)
is_found bytes (Ok tile) law given = law tile given
is_found bytes (Err e) law given = tt

pub entries_spelled : (end count : ℕ) (section : List ℕ) (r : Result (List Info) SectionFault) → ((infos : List Info) → entries_at end count section ≡ Ok infos → section ≡ infos_bytes infos) → Gives (λ (x : List Info). x) r (entries_at end count section) → IfOk r (λ infos. section ≡ infos_bytes infos)
entries_spelled end count section (Ok infos) law given = law infos given
entries_spelled end count section (Err e) law given = tt

pub is_first_fault : (bytes : List ℕ) (r : Result Tile SectionFault)
    → ((failure : FailedCheck) → tile_at bytes ≡ Err failure → (check : TileCheck) × (at : ℕ) × IsFirstFailing bytes check at × (failure ≡ Check (check_number check) at))
    → Gives (λ (t : Tile). t) r (tile_at bytes) → IfErr r (λ fault. IsFirstFault bytes fault)
is_first_fault bytes (Ok tile) law given = tt
is_first_fault bytes (Err faults.OutOfMemory) law given = tt
is_first_fault bytes (Err (faults.Bad number at)) law given =
    let t = law (Check number at) given in
    let same : Check number at ≡ Check (check_number t.0) t.1 = t.3 in
    let numbers : number ≡ check_number t.0 = cc in
    let places : t.1 ≡ at = cc in
    (t.0, subst (λ (n : ℕ). IsFirstFailing bytes t.0 n) places t.2, numbers)
