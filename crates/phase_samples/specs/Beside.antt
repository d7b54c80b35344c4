-- A post of a fence, and the heights beside it.
use Rattle.std.specs.Prelude.{ℕ, zero, suc, ◌+◌, List, get_or}
use Rattle.phase_samples.specs.declared.fence.Post.{Post}

-- the height at this place, or 0 where the fence has no post
abbrev pub height_at : List ℕ → ℕ → ℕ
height_at heights j = get_or heights j 0

-- the height before this place. The first post has none before it
abbrev pub height_before : List ℕ → ℕ → ℕ
height_before heights zero = 0
height_before heights (suc i) = height_at heights i

-- the finished post: the heights of its two neighbours, added up
abbrev pub with_beside : ℕ → List ℕ → Post → Post
with_beside i heights post = record post { beside = height_before heights i + height_at heights (i + 1) }
