use Rattle.std.proofs.Common.{◌≡◌, ◌+◌, ◌*◌}
use Rattle.fixed_geo.specs.Root.{whole_root_of}
use Rattle.fixed_geo.specs.Length.{square_length, length_cm}
use Rattle.fixed_geo.proofs.RootLaws.{only_root}
use Rattle.fixed_geo.proofs.lengths.segment_cm.Goals as goal

pub returns-clause-length : goal.returns-clause-length
unfolding length_cm square_length
returns-clause-length c =
    let eastward = c.eastward-eastward.result in
    let northward = c.northward-northward.result in
    let root : c.small_root.result ≡ whole_root_of (eastward * eastward + northward * northward) = only_root c.small_root.ensures.root in
    cc
