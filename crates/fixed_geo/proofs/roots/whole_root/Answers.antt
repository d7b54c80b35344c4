use Rattle.std.proofs.Common.{◌≡◌}
use Rattle.fixed_geo.specs.Root.{whole_root_of}
use Rattle.fixed_geo.proofs.RootLaws.{only_root}
use Rattle.fixed_geo.proofs.roots.whole_root.Goals as goal

pub returns-in-Ok-clause-value : goal.returns-in-Ok-clause-value
returns-in-Ok-clause-value c =
    let is : c.small_root.result ≡ whole_root_of c.in-Ok.small = only_root c.small_root.ensures.root in
    let same : c.in-Ok.small ≡ c.args.n = c.in-Ok.ensures.1 in
    cc

pub returns-in-Err-clause-value : goal.returns-in-Err-clause-value
returns-in-Err-clause-value c = only_root c.large_root.ensures
