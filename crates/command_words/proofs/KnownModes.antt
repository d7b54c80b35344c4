-- The modes that words ask for: there is one, and each is known.
use Rattle.std.proofs.Common.{◌≡◌, ◌⊎◌, inl, inr, ℕ, ◌+◌, ◌<◌, ◌≤◌, ◌==◌, Bool, true, false, cond, List, [], ◌∷◌, length, Option, Some, None, refl, ap, subst, arith}
use Rattle.std.specs.Prelude.{option_and_then, bit_and, bit_or, codes}
use Rattle.std.specs.List.{slice_split}
use Rattle.std.specs.Str.{bytes_eq}
use Rattle.std.specs.Int.{bit_at}
use Rattle.std.specs.Int.Bits.{or_add_and}
use Rattle.std.proofs.lemmas.Bool.{eqb-true}
use Rattle.std.proofs.lemmas.Option.{same_Some}
use Rattle.std.proofs.lemmas.List.Splits.{length-slice_split}
use Rattle.std.proofs.lemmas.Nat.Bits.{bit_at_and, bit_at_or, same_from_bits}
use Rattle.clap.specs.Walk.{Row, first_of}
use Rattle.command_words.specs.declared.command.BuildOptions.{BuildOptions}
use Rattle.command_words.specs.declared.command.Request.{Request}
use Rattle.command_words.specs.declared.command.Request.TheVariants as request
use Rattle.command_words.specs.Rows.{parsed_by, blobs_app, build_app, demo_app}
use Rattle.command_words.specs.Values.{mode_of, with_mode, with_modes, modes_of}
use Rattle.command_words.specs.Asks.{text_of, workers_of, number_of, modes_in, blobs_of, options_of, build_of, demo_of, asked_by}

-- ---- steps that give something

then_some : {A B : Type 0} (f : A → Option B) (o : Option A) (b : B) → option_and_then f o ≡ Some b → (a : A) × (o ≡ Some a) × (f a ≡ Some b)
then_some f None b e = absurd cc
then_some f (Some a) b e = (a, refl, e)

either_some : {A : Type 0} (b : Bool) (x y : Option A) (a : A) → cond b x y ≡ Some a → (x ≡ Some a) ⊎ (y ≡ Some a)
either_some true x y a e = inl e
either_some false x y a e = inr e

-- ---- sets of modes

-- all of these modes are known
abbrev AreKnown : ℕ → Type 0
AreKnown modes = bit_and modes 79 ≡ modes

known_both : (m n : ℕ) → AreKnown m → AreKnown n → AreKnown (bit_or m n)
known_both m n a b =
    same_from_bits (bit_and (bit_or m n) 79) (bit_or m n) (λ i.
    let first : bit_at (bit_and m 79) i ≡ bit_at m i = ap (λ k. bit_at k i) a in
    let second : bit_at (bit_and n 79) i ≡ bit_at n i = ap (λ k. bit_at k i) b in
    omega (arith, bit_at_and (bit_or m n) 79 i, bit_at_or m n i, bit_at_and m 79 i, bit_at_and n 79 i, first, second))

-- a mode is known, and not nothing
mode_known : (name : List ℕ) (mode : ℕ) → mode_of name ≡ Some mode → AreKnown mode × 0 < mode
mode_known name mode e =
    by (bytes_eq name (codes "auto")) (bytes_eq name (codes "pedestrian")) (bytes_eq name (codes "bicycle")) (bytes_eq name (codes "truck")) (bytes_eq name (codes "bus")) e
  where
    one : (n : ℕ) → ◌≡◌ {A = Option ℕ} (Some n) (Some mode) → AreKnown n → 0 < n → AreKnown mode × 0 < mode
    one n is known some = subst (λ (k : ℕ). AreKnown k × 0 < k) (same_Some n mode is) (known, some)

    by : (a p b t u : Bool) → cond a (Some 1) (cond p (Some 2) (cond b (Some 4) (cond t (Some 8) (cond u (Some 64) None)))) ≡ Some mode → AreKnown mode × 0 < mode
    by true p b t u is = one 1 is refl (omega arith)
    by false true b t u is = one 2 is refl (omega arith)
    by false false true t u is = one 4 is refl (omega arith)
    by false false false true u is = one 8 is refl (omega arith)
    by false false false false true is = one 64 is refl (omega arith)
    by false false false false false is = absurd cc

-- one mode more
mode_more : (m mode more : ℕ) → AreKnown m → AreKnown mode → 0 < mode → with_mode m mode ≡ Some more → AreKnown more × m < more
mode_more m mode more known also some e = by (bit_and m mode == 0) refl e
  where
    by : (b : Bool) → (bit_and m mode == 0) ≡ b → cond b (Some (bit_or m mode)) None ≡ Some more → AreKnown more × m < more
    by true apart is =
        let same = same_Some (bit_or m mode) more is in
        let none = eqb-true (bit_and m mode) 0 apart in
        (subst AreKnown same (known_both m mode known also), omega (arith, same, none, or_add_and m mode, some))
    by false apart is = absurd cc

-- names of modes, one after the other: each gives more
names_known : (names : List (List ℕ)) (m all : ℕ) → AreKnown m → with_modes m names ≡ Some all → AreKnown all × m + length names ≤ all
names_known [] m all known e =
    let same = same_Some m all e in
    (subst AreKnown same known, omega (arith, same))
names_known (name ∷ names) m all known e =
    let one = then_some (λ mode. option_and_then (λ more. with_modes more names) (with_mode m mode)) (mode_of name) all e in
    let is = mode_known name one.0 one.1 in
    let two = then_some (λ more. with_modes more names) (with_mode m one.0) all one.2 in
    let grown = mode_more m one.0 two.0 known is.0 is.1 two.1 in
    let rest = names_known names two.0 all grown.0 two.2 in
    (rest.0, omega (arith, grown.1, rest.1))

-- a list has one name or more
modes_known : (text : List ℕ) (all : ℕ) → modes_of text ≡ Some all → AreKnown all × 0 < all
modes_known text all e =
    let is = names_known (slice_split (λ byte. byte == 44) text) 0 all refl e in
    (is.0, omega (arith, is.1, length-slice_split (λ byte. byte == 44) text))

-- ---- the words

blobs_or_build : (path : List ℕ) (options : BuildOptions) → ◌≡◌ {A = Option Request} (Some (request.Blobs path)) (Some (request.Build options)) → ⊥
blobs_or_build path options e = cc

demo_or_build : (side seed workers : ℕ) (options : BuildOptions) → ◌≡◌ {A = Option Request} (Some (request.Demo side seed workers)) (Some (request.Build options)) → ⊥
demo_or_build side seed workers options e = cc

same_options : (a b : BuildOptions) → ◌≡◌ {A = Option Request} (Some (request.Build a)) (Some (request.Build b)) → a ≡ b
same_options a b e = cc

no_blobs : (rows : List Row) (options : BuildOptions) → blobs_of rows ≡ Some (request.Build options) → ⊥
no_blobs rows options e =
    let path = then_some (λ path. Some (request.Blobs path)) (text_of (codes "path") rows) (request.Build options) e in
    blobs_or_build path.0 options path.2

no_demo : (rows : List Row) (options : BuildOptions) → demo_of rows ≡ Some (request.Build options) → ⊥
no_demo rows options e =
    let side = then_some (λ side. option_and_then (λ seed. option_and_then (λ workers. Some (request.Demo side seed workers)) (workers_of rows)) (number_of (codes "seed") 0 2147483647 rows)) (number_of (codes "n") 2 500 rows) (request.Build options) e in
    let seed = then_some (λ seed. option_and_then (λ workers. Some (request.Demo side.0 seed workers)) (workers_of rows)) (number_of (codes "seed") 0 2147483647 rows) (request.Build options) side.2 in
    let workers = then_some (λ workers. Some (request.Demo side.0 seed.0 workers)) (workers_of rows) (request.Build options) seed.2 in
    demo_or_build side.0 seed.0 workers.0 options workers.2

-- the options with these values
abbrev with_values : List ℕ → List ℕ → ℕ → ℕ → BuildOptions
with_values input output workers modes = record { input = input; output = output; workers = workers; modes = modes }

options_known : (rows : List Row) (options : BuildOptions) → options_of rows ≡ Some options → AreKnown options.modes × 0 < options.modes
options_known rows options e =
    let input = then_some (λ input. option_and_then (λ output. option_and_then (λ workers. option_and_then (λ modes. Some (with_values input output workers modes)) (modes_in rows)) (workers_of rows)) (text_of (codes "output") rows)) (text_of (codes "input") rows) options e in
    let output = then_some (λ output. option_and_then (λ workers. option_and_then (λ modes. Some (with_values input.0 output workers modes)) (modes_in rows)) (workers_of rows)) (text_of (codes "output") rows) options input.2 in
    let workers = then_some (λ workers. option_and_then (λ modes. Some (with_values input.0 output.0 workers modes)) (modes_in rows)) (workers_of rows) options output.2 in
    let modes = then_some (λ modes. Some (with_values input.0 output.0 workers.0 modes)) (modes_in rows) options workers.2 in
    let text = then_some modes_of (first_of (codes "modes") rows) modes.0 modes.1 in
    subst (λ (o : BuildOptions). AreKnown o.modes × 0 < o.modes) (same_Some (with_values input.0 output.0 workers.0 modes.0) options modes.2) (modes_known text.0 modes.0 text.2)

build_known : (rows : List Row) (options : BuildOptions) → build_of rows ≡ Some (request.Build options) → AreKnown options.modes × 0 < options.modes
build_known rows options e =
    let mine = then_some (λ options. Some (request.Build options)) (options_of rows) (request.Build options) e in
    subst (λ (o : BuildOptions). AreKnown o.modes × 0 < o.modes) (same_options mine.0 options mine.2) (options_known rows mine.0 mine.1)

pub asked_known : (words : List (List ℕ)) (options : BuildOptions) → asked_by words ≡ Some (request.Build options) → AreKnown options.modes × 0 < options.modes
asked_known [] options e = absurd cc
asked_known (name ∷ words) options e = by_blobs (either_some (bytes_eq name (codes "blobs")) _ _ (request.Build options) e)
  where
    by_demo : (option_and_then demo_of (parsed_by demo_app words) ≡ Some (request.Build options)) ⊎ (None ≡ Some (request.Build options)) → AreKnown options.modes × 0 < options.modes
    by_demo (inl is) =
        let rows = then_some demo_of (parsed_by demo_app words) (request.Build options) is in
        absurd (no_demo rows.0 options rows.2)
    by_demo (inr is) = absurd cc

    by_build : (option_and_then build_of (parsed_by build_app words) ≡ Some (request.Build options)) ⊎ (cond (bytes_eq name (codes "demo")) (option_and_then demo_of (parsed_by demo_app words)) None ≡ Some (request.Build options)) → AreKnown options.modes × 0 < options.modes
    by_build (inl is) =
        let rows = then_some build_of (parsed_by build_app words) (request.Build options) is in
        build_known rows.0 options rows.2
    by_build (inr is) = by_demo (either_some (bytes_eq name (codes "demo")) _ _ (request.Build options) is)

    by_blobs : (option_and_then blobs_of (parsed_by blobs_app words) ≡ Some (request.Build options)) ⊎ (cond (bytes_eq name (codes "build")) (option_and_then build_of (parsed_by build_app words)) (cond (bytes_eq name (codes "demo")) (option_and_then demo_of (parsed_by demo_app words)) None) ≡ Some (request.Build options)) → AreKnown options.modes × 0 < options.modes
    by_blobs (inl is) =
        let rows = then_some blobs_of (parsed_by blobs_app words) (request.Build options) is in
        absurd (no_blobs rows.0 options rows.2)
    by_blobs (inr is) = by_build (either_some (bytes_eq name (codes "build")) _ _ (request.Build options) is)
