use Rattle.std.proofs.Common.{◌≡◌, ◌∙◌, ap, sym, Ok, true, false}
use Rattle.osm_objects.specs.Tags.{keeps}
use Rattle.osm_objects.specs.Seen.{table_of}
use Rattle.osm_objects.proofs.Exits.{Becomes-exit, Becomes-admitted}
use Rattle.osm_objects.proofs.OneTag.{after-no_key, after-dropped, after-dropped_fault, after-no_text, after-no_value, after-kept}
use Rattle.osm_objects.proofs.texts.Texts.add_tag.Goals as goal

pub returns-in_err-is_kept-clause-tags : goal.returns-in_err-is_kept-clause-tags
returns-in_err-is_kept-clause-tags c =
    Becomes-exit _ _ _ _ _ c.from_residual.ensures.1 c.in_err-is_kept.ensures.answer
    (λ d e. after-no_key _ _ _ _ _ _ e)

pub returns-then-not-branch-clause-tags : goal.returns-then-not-branch-clause-tags
returns-then-not-branch-clause-tags c =
    let dropped : keeps (table_of c.args.self.now) c.args.at c.args.key ≡ Ok false = c.in_ok-is_kept.ensures.answer ∙ ap (λ b. Ok b) c.if-not-branch.true in
    let checked = rw c.is_kept.ensures.table at c.check_index.ensures in
    Becomes-admitted _ _ _ _ checked (λ good. after-dropped _ _ _ _ _ dropped good) (λ d e. after-dropped_fault _ _ _ _ _ _ dropped e)

pub returns-in_err-key-clause-tags : goal.returns-in_err-key-clause-tags
returns-in_err-key-clause-tags c =
    let kept : keeps (table_of c.args.self.now) c.args.at c.args.key ≡ Ok true = c.in_ok-is_kept.ensures.answer ∙ ap (λ b. Ok b) c.if-not-branch.false in
    let text = rw c.is_kept.ensures.table at c.in_err-key.ensures.answer in
    Becomes-exit _ _ _ _ _ c.from_residual-in_err-key.ensures.1 text (λ d e. after-no_text _ _ _ _ _ _ kept e)

pub returns-in_err-value-clause-tags : goal.returns-in_err-value-clause-tags
returns-in_err-value-clause-tags c =
    let kept : keeps (table_of c.args.self.now) c.args.at c.args.key ≡ Ok true = c.in_ok-is_kept.ensures.answer ∙ ap (λ b. Ok b) c.if-not-branch.false in
    let key = rw c.is_kept.ensures.table at c.in_ok-key.ensures.answer in
    let value = rw (c.text.ensures.table, c.is_kept.ensures.table) at c.in_err-value.ensures.answer in
    Becomes-exit _ _ _ _ _ c.from_residual-in_err-value.ensures.1 value (λ d e. after-no_value _ _ _ _ _ _ _ kept key e)

pub returns-clause-tags : goal.returns-clause-tags
returns-clause-tags c =
    let kept : keeps (table_of c.args.self.now) c.args.at c.args.key ≡ Ok true = c.in_ok-is_kept.ensures.answer ∙ ap (λ b. Ok b) c.if-not-branch.false in
    let key = rw c.is_kept.ensures.table at c.in_ok-key.ensures.answer in
    let value = rw (c.text.ensures.table, c.is_kept.ensures.table) at c.in_ok-value.ensures.answer in
    after-kept _ _ _ _ _ _ _ kept key value ∙ ap (λ l. Ok l) (sym c.in_ok-push.ensures.items)
