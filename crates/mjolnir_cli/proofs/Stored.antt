-- Files that are put one after the other.
use Rattle.std.proofs.Common.{◌≡◌, ◌≢◌, ℕ, ◌+◌, ◌<◌, refl, sym, ap, subst, ◌∙◌, List, [], ◌∷◌, ◌++◌, length, get_or, take, drop, length-drop, append_assoc, arith, Option, Some, None}
use Rattle.std.proofs.Math.Seq.{take-nil}
use Rattle.std.specs.Prelude.{Result, Ok, Err, OnErr}
use Rattle.std.specs.Option.{option_map}
use Rattle.std.proofs.lemmas.List.{append-nil, map-append, take_more, take-append-drop}
use Rattle.host_port.specs.Told.{Told, Stored, stored}
use Rattle.mjolnir_cli.specs.Puts.{Unput, store_all, paths, PutsAll, IsFront}

-- one file more
store_all_more : (front : List (List ℕ × List ℕ)) (file : List ℕ × List ℕ) (old : List (List ℕ × List ℕ)) → store_all (front ++ file ∷ []) old ≡ stored file.0 file.1 (store_all front old)
store_all_more [] file old = refl
store_all_more (first ∷ front) file old = store_all_more front file (stored first.0 first.1 old)

all_more : (front : List (List ℕ × List ℕ)) (file : List ℕ × List ℕ) (old : Option (List (List ℕ × List ℕ))) → option_map (store_all (front ++ file ∷ [])) old ≡ option_map (stored file.0 file.1) (option_map (store_all front) old)
all_more front file None = refl
all_more front file (Some old) = ap Some (store_all_more front file old)

paths_more : (front : List (List ℕ × List ℕ)) (file : List ℕ × List ℕ) (old : Option (List (List ℕ))) → option_map (λ puts. puts ++ paths (front ++ file ∷ [])) old ≡ option_map (λ puts. puts ++ file.0 ∷ []) (option_map (λ puts. puts ++ paths front) old)
paths_more front file None = refl
paths_more front file (Some old) =
    ap Some (ap (λ ps. old ++ ps) (map-append (λ (f : List ℕ × List ℕ). f.0) front (file ∷ [])) ∙ sym (append_assoc old (paths front) (file.0 ∷ [])))

-- nothing is put
unchanged : (old : Option (List (List ℕ × List ℕ))) → old ≡ option_map (store_all []) old
unchanged None = refl
unchanged (Some old) = refl

no_paths : (old : Option (List (List ℕ))) → old ≡ option_map (λ puts. puts ++ paths []) old
no_paths None = refl
no_paths (Some old) = ap Some (sym (append-nil old))

pub puts_of_none : (old new : Told) → Unput old new → PutsAll [] old new
puts_of_none old new unput = record { stored = unput.files ∙ unchanged old.files; puts = unput.puts ∙ no_paths old.puts }

-- where there is no file, none is put
take_none : (files : List (List ℕ × List ℕ)) (i : ℕ) → files ≡ [] → take i files ≡ []
take_none files i none = ap (take i) none ∙ take-nil i

pub unput_by : (files : List (List ℕ × List ℕ)) (i : ℕ) (old new : Told) → files ≡ [] → PutsAll (take i files) old new → Unput old new
unput_by files i old new none puts =
    let here : PutsAll [] old new = subst (λ fs. PutsAll fs old new) (take_none files i none) puts in
    record { files = here.stored ∙ sym (unchanged old.files); puts = here.puts ∙ sym (no_paths old.puts) }

-- one file more is put
pub puts_more : (files : List (List ℕ × List ℕ)) (i : ℕ) (file : List ℕ × List ℕ) (old mid new : Told) → i < length files → file ≡ get_or files i file
    → PutsAll (take i files) old mid → Stored file.0 file.1 mid new → PutsAll (take (i + 1) files) old new
puts_more files i file old mid new lt is so_far one =
    let grows : take (i + 1) files ≡ take i files ++ file ∷ [] = take_more files i file lt ∙ ap (λ f. take i files ++ f ∷ []) (sym is) in
    subst (λ fs. PutsAll fs old new) (sym grows) (record {
      stored = one.files ∙ (ap (option_map (stored file.0 file.1)) so_far.stored ∙ sym (all_more (take i files) file old.files));
      puts = one.puts ∙ (ap (option_map (λ puts. puts ++ file.0 ∷ [])) so_far.puts ∙ sym (paths_more (take i files) file old.puts));
    })

-- a call that puts nothing comes before, or after
pub puts_after : (files : List (List ℕ × List ℕ)) (old mid new : Told) → mid.files ≡ old.files → mid.puts ≡ old.puts → PutsAll files mid new → PutsAll files old new
puts_after files old mid new same_files same_puts puts = record {
  stored = puts.stored ∙ ap (option_map (store_all files)) same_files;
  puts = puts.puts ∙ ap (option_map (λ ps. ps ++ paths files)) same_puts;
}

pub puts_before : (files : List (List ℕ × List ℕ)) (old mid new : Told) → new.files ≡ mid.files → new.puts ≡ mid.puts → PutsAll files old mid → PutsAll files old new
puts_before files old mid new same_files same_puts puts = record { stored = same_files ∙ puts.stored; puts = same_puts ∙ puts.puts }

-- ---- fronts

never_empty : (files : List (List ℕ × List ℕ)) (i : ℕ) → i < length files → drop i files ≢ []
never_empty files i lt none =
    let len : length (drop i files) ≡ 0 = ap length none in
    omega (arith, length-drop i files)

pub front_of : (files : List (List ℕ × List ℕ)) (i : ℕ) → i < length files → IsFront (take i files) files
front_of files i lt = record { rest = drop i files; more = never_empty files i lt; is = sym (take-append-drop i files) }

-- a fact holds whatever the answer is
pub on_err : {A E F : Type 0} (answer : Result A E) → F → OnErr answer F
on_err (Ok value) fact = tt
on_err (Err fault) fact = fact
