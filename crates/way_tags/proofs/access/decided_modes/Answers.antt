use Rattle.std.proofs.Common.{Bool, refl, ap, ◌∙◌, [], ◌∷◌}
use Rattle.std.specs.Prelude.{codes}
use Rattle.way_tags.specs.Modes.{Mode, auto, pedestrian, bicycle, truck, bus, word_of, is_listed}
use Rattle.way_tags.specs.Access.{without_leave}
use Rattle.way_tags.proofs.Deciding.{laid, laid_all, said, all_laid}
use Rattle.way_tags.proofs.access.decided_modes.Goals as goal

pub returns : goal.returns
returns c f at =
    let f1 : Mode → Bool = laid (auto ∷ pedestrian ∷ bicycle ∷ truck ∷ bus ∷ []) c.refusal-refused.result f in
    let f2 : Mode → Bool = laid (auto ∷ bicycle ∷ truck ∷ bus ∷ []) c.verdict-2.result f1 in
    let f3 : Mode → Bool = laid (auto ∷ truck ∷ bus ∷ []) c.verdict-3.result f2 in
    let f4 : Mode → Bool = laid (auto ∷ []) c.verdict-4.result f3 in
    let f5 : Mode → Bool = laid (truck ∷ []) c.verdict-5.result f4 in
    let f6 : Mode → Bool = laid (bus ∷ []) c.verdict-6.result f5 in
    let f7 : Mode → Bool = laid (bus ∷ []) c.verdict-7.result f6 in
    let f8 : Mode → Bool = laid (bicycle ∷ []) c.verdict-8.result f7 in
    c.overridden.ensures f8 (is_listed (pedestrian ∷ []))
    (c.overridden-word-8.ensures f7 (is_listed (bicycle ∷ []))
    (c.overridden-word-7.ensures f6 (is_listed (bus ∷ []))
    (c.overridden-word-6.ensures f5 (is_listed (bus ∷ []))
    (c.overridden-word-5.ensures f4 (is_listed (truck ∷ []))
    (c.overridden-word-4.ensures f3 (is_listed (auto ∷ []))
    (c.overridden-word-3.ensures f2 (is_listed (auto ∷ truck ∷ bus ∷ []))
    (c.overridden-word-2.ensures f1 (is_listed (auto ∷ bicycle ∷ truck ∷ bus ∷ []))
    (c.overridden-word.ensures f (is_listed (auto ∷ pedestrian ∷ bicycle ∷ truck ∷ bus ∷ [])) at refl) refl) refl) refl) refl) refl) refl) refl) refl
    ∙ ap (λ v. word_of (laid_all v c.verdict-2.result c.verdict-3.result c.verdict-4.result c.verdict-5.result c.verdict-6.result c.verdict-7.result c.verdict-8.result c.verdict-9.result f)) (c.refusal-refused.ensures ∙ ap without_leave c.verdict.ensures)
    ∙ ap (λ v. word_of (laid_all (without_leave (said c.args.tags.now (codes "access"))) v c.verdict-3.result c.verdict-4.result c.verdict-5.result c.verdict-6.result c.verdict-7.result c.verdict-8.result c.verdict-9.result f)) c.verdict-2.ensures
    ∙ ap (λ v. word_of (laid_all (without_leave (said c.args.tags.now (codes "access"))) (said c.args.tags.now (codes "vehicle")) v c.verdict-4.result c.verdict-5.result c.verdict-6.result c.verdict-7.result c.verdict-8.result c.verdict-9.result f)) c.verdict-3.ensures
    ∙ ap (λ v. word_of (laid_all (without_leave (said c.args.tags.now (codes "access"))) (said c.args.tags.now (codes "vehicle")) (said c.args.tags.now (codes "motor_vehicle")) v c.verdict-5.result c.verdict-6.result c.verdict-7.result c.verdict-8.result c.verdict-9.result f)) c.verdict-4.ensures
    ∙ ap (λ v. word_of (laid_all (without_leave (said c.args.tags.now (codes "access"))) (said c.args.tags.now (codes "vehicle")) (said c.args.tags.now (codes "motor_vehicle")) (said c.args.tags.now (codes "motorcar")) v c.verdict-6.result c.verdict-7.result c.verdict-8.result c.verdict-9.result f)) c.verdict-5.ensures
    ∙ ap (λ v. word_of (laid_all (without_leave (said c.args.tags.now (codes "access"))) (said c.args.tags.now (codes "vehicle")) (said c.args.tags.now (codes "motor_vehicle")) (said c.args.tags.now (codes "motorcar")) (said c.args.tags.now (codes "hgv")) v c.verdict-7.result c.verdict-8.result c.verdict-9.result f)) c.verdict-6.ensures
    ∙ ap (λ v. word_of (laid_all (without_leave (said c.args.tags.now (codes "access"))) (said c.args.tags.now (codes "vehicle")) (said c.args.tags.now (codes "motor_vehicle")) (said c.args.tags.now (codes "motorcar")) (said c.args.tags.now (codes "hgv")) (said c.args.tags.now (codes "psv")) v c.verdict-8.result c.verdict-9.result f)) c.verdict-7.ensures
    ∙ ap (λ v. word_of (laid_all (without_leave (said c.args.tags.now (codes "access"))) (said c.args.tags.now (codes "vehicle")) (said c.args.tags.now (codes "motor_vehicle")) (said c.args.tags.now (codes "motorcar")) (said c.args.tags.now (codes "hgv")) (said c.args.tags.now (codes "psv")) (said c.args.tags.now (codes "bus")) v c.verdict-9.result f)) c.verdict-8.ensures
    ∙ ap (λ v. word_of (laid_all (without_leave (said c.args.tags.now (codes "access"))) (said c.args.tags.now (codes "vehicle")) (said c.args.tags.now (codes "motor_vehicle")) (said c.args.tags.now (codes "motorcar")) (said c.args.tags.now (codes "hgv")) (said c.args.tags.now (codes "psv")) (said c.args.tags.now (codes "bus")) (said c.args.tags.now (codes "bicycle")) v f)) c.verdict-9.ensures
    ∙ all_laid c.args.tags.now f
