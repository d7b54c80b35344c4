use Rattle.std.proofs.Common.{◌∙◌, ap, sym, subst}
use Rattle.number_index.specs.Indexed.{HeadsRise, part_of}
use Rattle.number_index.specs.Standing.{stands_at}
use Rattle.number_index.proofs.IndexLemmas.{heads_rise, part_is}
use Rattle.number_index.proofs.index.NumberIndex.places.Goals as goal

pub part-requires : goal.part-requires
part-requires c =
    subst (λ hs. HeadsRise hs c.deref-2.result.now) (sym c.deref.ensures.value)
    (subst (λ ps. HeadsRise c.self.inside.heads.items ps) (sym c.deref-2.ensures.value) (heads_rise _ _ _ c.self.invariant))

pub returns : goal.returns
returns c =
    c.part.ensures
    ∙ ap (λ hs. part_of hs c.deref-2.result.now c.args.number) c.deref.ensures.value
    ∙ ap (λ ps. part_of c.self.inside.heads.items ps c.args.number) c.deref-2.ensures.value
    ∙ part_is _ _ _ c.self.invariant c.args.number
    ∙ ap (stands_at c.args.number) c.self.view_is
