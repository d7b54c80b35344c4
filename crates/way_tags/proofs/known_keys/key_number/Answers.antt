use Rattle.std.proofs.Common.{◌≡◌, true, subst, sym, ◌∙◌, ap}
use Rattle.std.specs.Prelude.{nat_eq}
use Rattle.std.specs.Str.{bytes_eq}
use Rattle.way_tags.specs.KnownKeys.{known_key, likely_number}
use Rattle.way_tags.proofs.Keys.{number_there}
use Rattle.way_tags.proofs.known_keys.key_number.Goals as goal

pub returns-then-eq-clause-number : goal.returns-then-eq-clause-number
returns-then-eq-clause-number c k h =
    let there : bytes_eq c.args.key.now (known_key (likely_number c.args.key.now)) ≡ true =
    subst (λ n. bytes_eq c.args.key.now (known_key n) ≡ true) c.likely_key-number.ensures.number
    (subst (λ t. bytes_eq c.args.key.now t ≡ true) c.text_of.ensures (sym c.eq.ensures ∙ c.if-eq.true)) in
    number_there c.args.key.now there k h ∙ ap (nat_eq k) (sym c.likely_key-number.ensures.number)
