-- Members stay as they are where roles are added after theirs.
use Rattle.std.proofs.Common.{◌≡◌, ℕ, ℤ, ◌+◌, ◌-◌, ◌≤◌, refl, sym, ◌∙◌, ap, subst, List, [], ◌∷◌, ◌++◌, length, map, take, drop, arith}
use Rattle.std.specs.Prelude.{true, false, slice_range, slice_get, Some}
use Rattle.std.proofs.lemmas.List.{length-append, map-append, get_or_append_left, take-map, drop-map}
use Rattle.std.proofs.lemmas.List.Elements.{All-head, All-tail, All-push}
use Rattle.std.proofs.lemmas.Option.{get_or_from_slice_get, slice_get_within}
use Rattle.osm_model.specs.declared.relations.Member.{Member}
use Rattle.osm_model.specs.declared.relations.MemberKind.{MemberKind}
use Rattle.osm_model.specs.declared.member_rows.Mark.{Mark}
use Rattle.osm_model.specs.MemberRows.{member_of, HasRole, HaveRoles, AreMembers}
use Rattle.osm_model.specs.Grew.{Grew}

members_append : (roles more : List (List ℕ)) (marks : List Mark) → HaveRoles roles marks → map (member_of (roles ++ more)) marks ≡ map (member_of roles) marks
members_append roles more [] h = refl
members_append roles more (mark ∷ marks) h =
    let here : HasRole (length roles) mark = All-head (HasRole (length roles)) mark marks h in
    ap (λ r. record { role = r; kind = mark.kind; id = mark.id } ∷ map (member_of (roles ++ more)) marks) (get_or_append_left roles more [] mark.role here.role) ∙
    ap (λ l. member_of roles mark ∷ l) (members_append roles more marks (All-tail (HasRole (length roles)) mark marks h))

members_stay : (roles new : List (List ℕ)) (marks : List Mark) → HaveRoles roles marks → Grew roles new → map (member_of new) marks ≡ map (member_of roles) marks
members_stay roles new marks h g = ap (λ t. map (member_of t) marks) g.is ∙ members_append roles g.more marks h

pub roles_stay : (roles new : List (List ℕ)) (marks : List Mark) → HaveRoles roles marks → Grew roles new → HaveRoles new marks
roles_stay roles new marks h g =
    λ k d l. let here = h k d l in
    let longer : length new ≡ length (roles ++ g.more) = ap length g.is in
    record { role = omega (arith, here.role, longer, length-append roles g.more) }

-- more roles leave the members, and their value
pub members_kept : (old : List Member) (roles new : List (List ℕ)) (marks marks' : List Mark) → map (member_of roles) marks ≡ old → HaveRoles roles marks → Grew roles new → marks' ≡ marks → map (member_of new) marks' ≡ old
members_kept old roles new marks marks' e h g same = ap (map (member_of new)) same ∙ (members_stay roles new marks h g ∙ e)

-- a member behind the others
pub member_behind : (old : List Member) (roles new : List (List ℕ)) (marks marks' : List Mark) (mark : Mark) (n : ℕ) (role : List ℕ) (kind : MemberKind) (id : ℤ) → map (member_of roles) marks ≡ old → HaveRoles roles marks → Grew roles new → slice_get new n ≡ Some role → mark ≡ record { role = n; kind = kind; id = id } → marks' ≡ marks ++ mark ∷ [] → map (member_of new) marks' ≡ old ++ record { role = role; kind = kind; id = id } ∷ []
member_behind old roles new marks marks' mark n role kind id e h g there is pushed =
    let member : member_of new mark ≡ record { role = role; kind = kind; id = id } =
    ap (member_of new) is ∙ ap (λ r. record { role = r; kind = kind; id = id }) (get_or_from_slice_get new n role [] there) in
    ap (map (member_of new)) pushed ∙ (map-append (member_of new) marks (mark ∷ []) ∙
    (ap (λ l. l ++ member_of new mark ∷ []) (members_stay roles new marks h g ∙ e) ∙
    ap (λ t. old ++ t ∷ []) member))

pub roles_more : (roles new : List (List ℕ)) (marks marks' : List Mark) (mark : Mark) (n : ℕ) (role : List ℕ) (kind : MemberKind) (id : ℤ) → HaveRoles roles marks → Grew roles new → slice_get new n ≡ Some role → mark ≡ record { role = n; kind = kind; id = id } → marks' ≡ marks ++ mark ∷ [] → HaveRoles new marks'
roles_more roles new marks marks' mark n role kind id h g there is pushed =
    let last : HasRole (length new) mark = subst (HasRole (length new)) (sym is) (record { role = slice_get_within new n role there }) in
    subst (HaveRoles new) (sym pushed) (All-push (HasRole (length new)) marks mark (roles_stay roles new marks h g) last)

-- a part of the members is the members of a part
pub members_part : (old : List Member) (roles roles' : List (List ℕ)) (marks : List Mark) (from to : ℕ) → map (member_of roles) marks ≡ old → roles' ≡ roles → map (member_of roles') (slice_range marks from to) ≡ slice_range old from to
members_part old roles roles' marks from to e same =
    ap (λ t. map (member_of t) (slice_range marks from to)) same ∙ (sym (take-map (member_of roles) (to - from) (drop from marks)) ∙
    (ap (take (to - from)) (sym (drop-map (member_of roles) from marks)) ∙ ap (λ l. slice_range l from to) e))

-- where memory was short the members stay, with more roles than they need
pub members_short : (roles new : List (List ℕ)) (marks marks' : List Mark) → HaveRoles roles marks → Grew roles new → marks' ≡ marks → AreMembers new marks' true
members_short roles new marks marks' h g same =
    record { have_roles = subst (HaveRoles new) (sym same) (roles_stay roles new marks h g); few = λ e. absurd (cc e) }

-- a member more has one role more at most
pub members_pushed : (roles new : List (List ℕ)) (marks marks' : List Mark) (mark : Mark) (n : ℕ) (role : List ℕ) (kind : MemberKind) (id : ℤ) → HaveRoles roles marks → length roles ≤ length marks → Grew roles new → length new ≤ length roles + 1 → slice_get new n ≡ Some role → mark ≡ record { role = n; kind = kind; id = id } → marks' ≡ marks ++ mark ∷ [] → AreMembers new marks' false
members_pushed roles new marks marks' mark n role kind id h few g one there is pushed =
    let more : length marks' ≡ length (marks ++ mark ∷ []) = ap (λ l. length l) pushed in
    record {
      have_roles = roles_more roles new marks marks' mark n role kind id h g there is pushed;
      few = λ e. omega (arith, few, one, more, length-append marks (mark ∷ []));
    }
