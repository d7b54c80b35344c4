-- How a feature is shown.
use Rattle.std.proofs.Common.{◌≡◌, ℕ, cond, List, ap, codes}
use Rattle.std.specs.Str.{IsUtf8, is_utf8}
use Rattle.std.proofs.lemmas.Str.{IsUtf8-from_is_utf8, is_utf8-from_IsUtf8}
use Rattle.std.proofs.lemmas.Bool.{false_from_ne_true}
use Rattle.osm_blocks.specs.Features.{shown}

pub shown-text : (feature : List ℕ) → IsUtf8 feature → shown feature ≡ feature
shown-text feature utf8 = ap (λ b. cond b feature (codes "?")) (is_utf8-from_IsUtf8 feature utf8)

pub shown-other : (feature : List ℕ) → (IsUtf8 feature → ⊥) → shown feature ≡ codes "?"
shown-other feature never = ap (λ b. cond b feature (codes "?")) (false_from_ne_true (is_utf8 feature) (λ t. never (IsUtf8-from_is_utf8 feature t)))
