-- Where no count is past its limit, none is found to be.
use Rattle.std.proofs.Common.{◌≡◌, ℕ, ◌≤◌, ltb, cond, false, List, [], ◌∷◌, None, Some, refl, ap, ◌∙◌, arith}
use Rattle.std.specs.List.{find}
use Rattle.std.specs.Option.{option_map}
use Rattle.std.proofs.lemmas.Bool.Decides.{nat_tests}
use Rattle.osm_model.specs.Extract.{AreWithin}
use Rattle.osm_objects.specs.Objects.{Objects}
use Rattle.osm_blocks.specs.Counts.{Count, as_u64, counts_of, first_past}
use Rattle.osm_blocks.proofs.Limits.{AllWithin}

first_past-none : (counts : List Count) → AllWithin counts → first_past counts ≡ None
first_past-none [] all = refl
first_past-none (count ∷ counts) all = ap (λ b. option_map (λ (c : Count). (c.what, c.found)) (cond b (Some count) (find (λ (c : Count). ltb c.most c.found) counts))) (not_below count.found count.most all.0) ∙ first_past-none counts all.1
  where
    not_below : (a b : ℕ) → a ≤ b → ltb b a ≡ false
    not_below a b h = grind (arith, nat_tests)

lower : (n most : ℕ) → n ≤ most → as_u64 n ≤ most
lower n most h = omega arith

pub none_past : (objects : Objects) → AreWithin objects.nodes objects.ways objects.relations → first_past (counts_of objects) ≡ None
none_past objects within =
    first_past-none (counts_of objects) (
      lower _ _ within.node_limit,
      (
        lower _ _ within.way_limit,
        (
          lower _ _ within.relation_limit,
          (
            lower _ _ within.ref_limit,
            (lower _ _ within.member_limit, (lower _ _ within.tag_limit, tt)),
          ),
        ),
      ),
    )
