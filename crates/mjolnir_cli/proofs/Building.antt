-- The files of an extract that was read.
use Rattle.std.proofs.Common.{◌≡◌, inl, inr, refl, ℕ, sym, subst, ◌∙◌, List, [], ◌∷◌, map, Option, Some, None}
use Rattle.std.specs.Prelude.{All, Result, Ok, Err, IfOk, IfErr, OnOk, IsSome}
use Rattle.std.specs.Option.{option_map, option_and_then}
use Rattle.std.proofs.lemmas.List.Elements.{All-nil, All-cons}
use Rattle.host_port.specs.Told.{Told, Opened, named, file_at}
use Rattle.osm_model.specs.declared.extract.Extract.{Extract}
use Rattle.build_flow.specs.Unbuilt.{unbuilt}
use Rattle.build_flow.specs.FolderFiles.{folder_files, limit_passed}
use Rattle.mjolnir_cli.specs.declared.answer.Answer.{Answer}
use Rattle.mjolnir_cli.specs.declared.failure.Failure.{Failure}
use Rattle.mjolnir_cli.specs.Failures.{cause_of}
use Rattle.mjolnir_cli.specs.Commands.{IsIn}
use Rattle.mjolnir_cli.specs.Commands.BuildCommand.{file_in, output_files, Spells, IsBuilt, IsBuildRefused, IsOfExtract}
use Rattle.mjolnir_cli.specs.Puts.{paths}
use Rattle.mjolnir_cli.specs.Listing.{IfOfInput}

-- ---- what is answered of an extract

-- what is refused so for an input of these bytes
abbrev IsRefusedSo : ℕ → List ℕ → Failure → Type 0
IsRefusedSo modes bytes failure = IfOfInput (cause_of failure) (IsBuildRefused modes bytes failure)

-- a failure of an extract is an object that isn't built, a limit that its roads pass, or want of memory
refused_so : (modes : ℕ) (bytes : List ℕ) (x : Extract) (failure : Failure) → Spells bytes x → IsOfExtract modes failure x → IsRefusedSo modes bytes failure
refused_so modes bytes x failure spelled (inl memory) = rw memory tt
refused_so modes bytes x failure spelled (inr (inl h)) = subst (IsRefusedSo modes bytes) (sym h.is) (record { extract = x; spelled = spelled; first = h.first })
refused_so modes bytes x failure spelled (inr (inr h)) = subst (IsRefusedSo modes bytes) (sym h.is) (record { extract = x; spelled = spelled; built = h.built; passed = h.passed })

-- each path lies in the folder
all_in : (output : List ℕ) (files : List (List ℕ × List ℕ)) → All (IsIn output) (paths (map (file_in output) files))
all_in output [] = All-nil (IsIn output)
all_in output (file ∷ files) = All-cons (IsIn output) (file_in output file).0 (paths (map (file_in output) files)) (file.0, refl) (all_in output files)

pub if_in : (output : List ℕ) (modes : ℕ) (x : Extract) (result : Result Answer Failure) → IfOk result (λ answer. answer.files ≡ output_files output modes x) → IfOk result (λ answer. All (IsIn output) (paths answer.files))
if_in output modes x (Ok answer) files = subst (λ fs. All (IsIn output) (paths fs)) (sym files) (all_in output (folder_files x modes))
if_in output modes x (Err failure) files = tt

-- ---- with the bytes that the extract was read from

-- a fact for all bytes, of an answer
pub for_all : {A E : Type 0} (answer : Result A E) (P : A → List ℕ → Type 0) (Q R : List ℕ → Type 0) → ((bytes : List ℕ) → Q bytes → R bytes → IfOk answer (λ value. P value bytes)) → IfOk answer (λ value. (bytes : List ℕ) → Q bytes → R bytes → P value bytes)
for_all (Ok value) P Q R each = each
for_all (Err fault) P Q R each = tt

pub for_all_err : {A E : Type 0} (answer : Result A E) (P : E → List ℕ → Type 0) (Q R : List ℕ → Type 0) → ((bytes : List ℕ) → Q bytes → R bytes → IfErr answer (λ fault. P fault bytes)) → IfErr answer (λ fault. (bytes : List ℕ) → Q bytes → R bytes → P fault bytes)
for_all_err (Ok value) P Q R each = tt
for_all_err (Err fault) P Q R each = each

pub if_built : (output : List ℕ) (modes : ℕ) (bytes : List ℕ) (x : Extract) (result : Result Answer Failure) → IfOk result (λ answer. answer.files ≡ output_files output modes x) → IfOk result (λ answer. answer.text ≡ []) → OnOk result (unbuilt x ≡ None) → OnOk result (limit_passed x modes ≡ None)
    → Spells bytes x → IfOk result (λ answer. IsBuilt output modes bytes answer)
if_built output modes bytes x (Ok answer) files silent built within spelled =
    record { extract = x; spelled = spelled; built = built; within = within; files = files; silent = silent }
if_built output modes bytes x (Err failure) files silent built within spelled = tt

pub if_refused : (modes : ℕ) (bytes : List ℕ) (x : Extract) (answer : Result Answer Failure) → IfErr answer (λ failure. IsOfExtract modes failure x) → Spells bytes x → IfErr answer (λ failure. IfOfInput (cause_of failure) (IsBuildRefused modes bytes failure))
if_refused modes bytes x (Ok answer) is spelled = tt
if_refused modes bytes x (Err failure) is spelled = refused_so modes bytes x failure spelled is

-- ---- an input that was opened

files_told : (path bytes : List ℕ) (files : Option (List (List ℕ × List ℕ))) → option_and_then (file_at path) files ≡ Some bytes → IsSome files
files_told path bytes None found = absurd cc
files_told path bytes (Some files) found = refl

at_start : (place : Option ℕ) → IsSome place → option_map {U = ℕ} (λ place. 0) place ≡ Some 0
at_start None some = absurd cc
at_start (Some place) some = refl

reached : (path bytes : List ℕ) (old new : Told) → Opened path old new → (IsSome old.files → IsSome old.input × IsSome old.place) → named path old ≡ Some bytes → (new.input ≡ Some bytes) × (new.place ≡ Some 0)
reached path bytes old new opened tells found =
    let files = files_told path bytes old.files found in
    (opened.bytes files ∙ found, opened.place ∙ at_start old.place (tells files).1)

-- what holds of the bytes of an input that was opened holds of the bytes of the file
pub if_opened : (output : List ℕ) (modes : ℕ) (path : List ℕ) (old new : Told) (result : Result Answer Failure) → Opened path old new → (IsSome old.files → IsSome old.input × IsSome old.place)
    → IfOk result (λ answer. (bytes : List ℕ) → new.input ≡ Some bytes → new.place ≡ Some 0 → IsBuilt output modes bytes answer)
    → IfOk result (λ answer. (bytes : List ℕ) → named path old ≡ Some bytes → IsBuilt output modes bytes answer)
if_opened output modes path old new (Ok answer) opened tells given =
    λ bytes found. let here = reached path bytes old new opened tells found in given bytes here.0 here.1
if_opened output modes path old new (Err failure) opened tells given = tt
