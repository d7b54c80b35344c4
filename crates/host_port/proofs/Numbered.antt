-- Lemmas on the number of the file of a path.
use Rattle.std.proofs.Common.{◌≡◌, ℕ, suc, cond, ◌+◌, ◌<◌, Bool, true, false, List, [], ◌∷◌, ◌++◌, length, drop, set, get_or, drop-cons, add-one, arith, refl, ap, ◌∙◌}
use Rattle.std.specs.Prelude.{Option, Some, None, is_some}
use Rattle.std.specs.Option.{option_map, option_and_then}
use Rattle.std.specs.Str.{bytes_eq}
use Rattle.host_port.specs.Told.{file_at, stored}
use Rattle.host_port.specs.HostFiles.{number_of, bytes_numbered, open_bytes}

-- a number counted from the next file, counted from this one
shift : (o : Option ℕ) (n : ℕ) → option_map (λ k. k + n) (option_map suc o) ≡ option_map (λ k. k + suc n) o
shift None n = refl
shift (Some k) n = ap Some (omega arith)

-- where the file of that number has another path, the search goes on behind it
pub go_on : (path : List ℕ) (files : List (List ℕ × List ℕ)) (n : ℕ) (file : List ℕ × List ℕ) → n < length files → file ≡ get_or files n file → bytes_eq path file.0 ≡ false → option_map (λ k. k + n) (number_of path (drop n files)) ≡ option_map (λ k. k + (n + 1)) (number_of path (drop (n + 1) files))
go_on path files n file lt is other = rw (drop-cons files n file lt, ← is, other, add-one) (shift (number_of path (drop (suc n) files)) n)

-- where the file of that number has this path, it is the first of those that are left
pub stops : (path : List ℕ) (files : List (List ℕ × List ℕ)) (n : ℕ) (file : List ℕ × List ℕ) → n < length files → file ≡ get_or files n file → bytes_eq path file.0 ≡ true → option_map (λ k. k + n) (number_of path (drop n files)) ≡ Some n
stops path files n file lt is same = rw (drop-cons files n file lt, ← is, same) (ap Some (omega arith))

-- the number before a suc, where there is one
fewer : (o : Option ℕ) (n : ℕ) → option_map suc o ≡ Some n → (k : ℕ) × ((o ≡ Some k) × (n ≡ suc k))
fewer None n e = cc
fewer (Some k) n e = (k, (refl, cc))

-- no suc, so no number
none_fewer : (o : Option ℕ) → option_map suc o ≡ None → o ≡ None
none_fewer None e = refl
none_fewer (Some k) e = cc

-- storing a known path writes the pair of that number
pub stored_known : (path bytes : List ℕ) (files : List (List ℕ × List ℕ)) (n : ℕ) → number_of path files ≡ Some n → set files n (path, bytes) ≡ stored path bytes files
stored_known path bytes [] n e = cc
stored_known path bytes (file ∷ files) n e = by (bytes_eq path file.0) (stored_known path bytes files) e
  where
    by : (same : Bool) → ((k : ℕ) → number_of path files ≡ Some k → set files k (path, bytes) ≡ stored path bytes files) → cond same (Some 0) (option_map suc (number_of path files)) ≡ Some n → set (file ∷ files) n (path, bytes) ≡ cond same ((path, bytes) ∷ files) (file ∷ stored path bytes files)
    by true others e =
        let zero_is : n ≡ 0 = cc in
        rw zero_is refl
    by false others e =
        let before = fewer (number_of path files) n e in
        rw before.1.1 (ap (λ rest. file ∷ rest) (others before.0 before.1.0))

-- storing a new path adds a pair at the end
pub stored_new : (path bytes : List ℕ) (files : List (List ℕ × List ℕ)) → number_of path files ≡ None → files ++ (path, bytes) ∷ [] ≡ stored path bytes files
stored_new path bytes [] e = refl
stored_new path bytes (file ∷ files) e = by (bytes_eq path file.0) (stored_new path bytes files) e
  where
    by : (same : Bool) → (number_of path files ≡ None → files ++ (path, bytes) ∷ [] ≡ stored path bytes files) → cond same (Some 0) (option_map suc (number_of path files)) ≡ None → file ∷ (files ++ (path, bytes) ∷ []) ≡ cond same ((path, bytes) ∷ files) (file ∷ stored path bytes files)
    by true others e = cc
    by false others e = ap (λ rest. file ∷ rest) (others (none_fewer (number_of path files) e))

-- the file of the number that a path has holds what the path names
pub found_bytes : (path : List ℕ) (files : List (List ℕ × List ℕ)) → open_bytes files (number_of path files) ≡ file_at path files
found_bytes path [] = refl
found_bytes path (file ∷ files) = by (bytes_eq path file.0) (found_bytes path files)
  where
    up : (o : Option ℕ) → option_and_then (bytes_numbered (file ∷ files)) (option_map suc o) ≡ option_and_then (bytes_numbered files) o
    up None = refl
    up (Some k) = refl

    by : (same : Bool) → open_bytes files (number_of path files) ≡ file_at path files → option_and_then (bytes_numbered (file ∷ files)) (cond same (Some 0) (option_map suc (number_of path files))) ≡ cond same (Some file.1) (file_at path files)
    by true others = refl
    by false others = up (number_of path files) ∙ others

-- a path has a number exactly where it names a file
pub found_some : (path : List ℕ) (files : List (List ℕ × List ℕ)) → is_some (number_of path files) ≡ is_some (file_at path files)
found_some path [] = refl
found_some path (file ∷ files) = by (bytes_eq path file.0) (found_some path files)
  where
    up : (o : Option ℕ) → is_some (option_map suc o) ≡ is_some o
    up None = refl
    up (Some k) = refl

    by : (same : Bool) → is_some (number_of path files) ≡ is_some (file_at path files) → is_some (cond same (Some 0) (option_map suc (number_of path files))) ≡ is_some (cond same (Some file.1) (file_at path files))
    by true others = refl
    by false others = up (number_of path files) ∙ others
