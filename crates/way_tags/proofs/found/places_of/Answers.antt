use Rattle.std.proofs.Common.{◌≡◌, ◌+◌, ◌-◌, refl, subst, sym, get_or, replicate, ap, ◌∙◌, arith}
use Rattle.std.specs.Str.{bytes_eq}
use Rattle.std.proofs.Math.ListN.{length-set}
use Rattle.std.proofs.lemmas.List.{get_or-replicate}
use Rattle.osm_model.specs.declared.tags.Tag.{Tag}
use Rattle.way_tags.specs.KnownKeys.{ArePlaces, known_key}
use Rattle.way_tags.proofs.PlaceLemmas.{places_none, places_more}
use Rattle.way_tags.proofs.found.places_of.Goals as goal

pub loop-i-init : goal.loop-i-init
loop-i-init c = record {
  within = omega arith;
  long = refl;
  found = places_none c.args.tags.now c.len-count.result (replicate 20 c.len-count.result) c.len-count.ensures (λ k h. get_or-replicate 20 k c.len-count.result 0 (omega (arith, h)));
}

pub loop-i-preserved : goal.loop-i-preserved
loop-i-preserved c =
    let tag : Tag = c.at.result in
    let here : c.key.result.now ≡ (get_or c.args.tags.now (c.loop-i.i - 1) tag).key = c.key.ensures ∙ ap (λ (t : Tag). t.key) c.at.ensures in
    let back : c.loop-i.i ≡ c.loop-i.i - 1 + 1 = omega arith in
    record {
      within = omega arith;
      long = length-set c.loop-i.places c.key_number.result (c.loop-i.i - 1) ∙ c.loop-i.invariant.long;
      found = places_more c.args.tags.now (c.loop-i.i - 1) c.loop-i.places c.key_number.result tag (omega arith) c.loop-i.invariant.long
          (λ k h. ap (λ key. bytes_eq key (known_key k)) (sym here) ∙ c.key_number.ensures.number k h)
          (subst (λ n. ArePlaces c.args.tags.now n c.loop-i.places) back c.loop-i.invariant.found);
    }
