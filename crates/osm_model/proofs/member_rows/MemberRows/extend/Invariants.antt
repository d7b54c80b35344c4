-- The members so far are put behind the others.
use Rattle.std.proofs.Common.{◌≡◌, ◌++◌, take}
use Rattle.osm_model.proofs.member_rows.MemberRows.extend.Given as goal

abbrev pub invariant-loop-member : goal.invariant-loop-member
invariant-loop-member l = l.self ≡ l.fn.self ++ take l.member-index l.members
