-- Members without a float.
use Rattle.std.proofs.Common.{◌≡◌, ◌||◌, ℕ, Bool, true, false, true≢false, List, refl, ap₂}
use Rattle.std.specs.Ordering.{nat_cmp, match_ordering}
use Rattle.std.specs.Cmp.Lexicographic.{slice_cmp}
use Rattle.std.specs.declared.cmp.Ordering.{Ordering}
use Rattle.std.specs.declared.cmp.Ordering.TheVariants.{Less, Equal, Greater}
use Rattle.serde_json.specs.Data.{Data, Members, no_members, member, put}
use Rattle.serde_json.specs.Written.{has_float, members_have_float}

or_left : (a b : Bool) → (a || b) ≡ false → a ≡ false
or_left true b e = e
or_left false b e = refl

or_right : (a b : Bool) → (a || b) ≡ false → b ≡ false
or_right true b e = absurd (true≢false e)
or_right false b e = e

both : (a b : Bool) → a ≡ false → b ≡ false → (a || b) ≡ false
both a b e f = ap₂ (λ x y. x || y) e f

placed : (o : Ordering) (k l : List ℕ) (d x : Data) (ms more : Members) → has_float d ≡ false → members_have_float (member l x ms) ≡ false → members_have_float more ≡ false
    → members_have_float (match_ordering o (member k d (member l x ms)) (member l d ms) (member l x more)) ≡ false
placed Less k l d x ms more e f g = both _ _ e f
placed Equal k l d x ms more e f g = both _ _ e (or_right (has_float x) _ f)
placed Greater k l d x ms more e f g = both _ _ (or_left (has_float x) _ f) g

pub put_plain : (k : List ℕ) (d : Data) (ms : Members) → has_float d ≡ false → members_have_float ms ≡ false → members_have_float (put k d ms) ≡ false
put_plain k d no_members e f = both _ _ e refl
put_plain k d (member l x ms) e f =
    placed (slice_cmp nat_cmp k l) k l d x ms (put k d ms) e f (put_plain k d ms e (or_right (has_float x) _ f))
