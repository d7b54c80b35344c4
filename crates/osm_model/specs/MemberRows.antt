-- How members are kept: by the numbers of their roles.
use Rattle.std.specs.Prelude.{◌≡◌, ◌<◌, ◌≤◌, ℕ, Bool, false, List, [], length, All}
use Rattle.std.specs.List.{slice_index_or}
use Rattle.osm_model.specs.declared.relations.Member.{Member}
use Rattle.osm_model.specs.declared.member_rows.Mark.{Mark}

-- the member of this number of a role
abbrev pub member_of : List (List ℕ) → Mark → Member
member_of roles mark = record { role = slice_index_or roles mark.role []; kind = mark.kind; id = mark.id }

-- it is the number of a role
pub record HasRole (count : ℕ) (mark : Mark) : Type 0 where
  pub role : mark.role < count

abbrev pub HaveRoles : List (List ℕ) → List Mark → Type 0
HaveRoles roles marks = All (HasRole (length roles)) marks

-- They have roles, of which there is at most one a member where memory was never short.
pub record AreMembers (roles : List (List ℕ)) (marks : List Mark) (short : Bool) : Type 0 where
  pub have_roles : HaveRoles roles marks
  pub few : short ≡ false → length roles ≤ length marks
