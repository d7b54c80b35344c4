use Rattle.std.proofs.Common.{◌≡◌, ◌&&◌, ap, ◌∙◌, sym}
use Rattle.std.specs.Prelude.{codes, nat_eq}
use Rattle.std.specs.List.{starts_with, ends_with}
use Rattle.std.proofs.lemmas.Str.Pattern.{starts_text, ends_text}
use Rattle.osm_restrictions.proofs.keys.is_conditional_key.Goals as goal

pub returns-then-starts_with : goal.returns-then-starts_with
returns-then-starts_with c =
    let starts : c.starts_with.result ≡ starts_with nat_eq c.args.key.now (codes "restriction") = starts_text c.starts_with.result (codes "restriction") c.args.key.now c.starts_with.ensures.cases in
    let ends : c.ends_with.result ≡ ends_with nat_eq c.args.key.now (codes ":conditional") = ends_text c.ends_with.result (codes ":conditional") c.args.key.now c.ends_with.ensures.cases in
    ends ∙ ap (λ b. b && ends_with nat_eq c.args.key.now (codes ":conditional")) (sym c.if-starts_with.true ∙ starts)

pub returns-else-starts_with : goal.returns-else-starts_with
returns-else-starts_with c =
    let starts : c.starts_with.result ≡ starts_with nat_eq c.args.key.now (codes "restriction") = starts_text c.starts_with.result (codes "restriction") c.args.key.now c.starts_with.ensures.cases in
    c.if-starts_with.false ∙ ap (λ b. b && ends_with nat_eq c.args.key.now (codes ":conditional")) (sym c.if-starts_with.false ∙ starts)
