use Rattle.std.proofs.Common.{◌≡◌, ◌∙◌, ap, Some, inl, inr}
use Rattle.command_words.specs.Rows.{parsed_by}
use Rattle.command_words.proofs.RowReads.{first_of_both, parsed_gives, refused_gives}
use Rattle.command_words.proofs.rows.parse.Goals as goal

pub returns-in-Ok : goal.returns-in-Ok
unfolding parsed_by
returns-in-Ok c =
    let is_free = c.in-Ok.ensures.kinds c.requires in
    let matches = c.in-Ok.ensures.matches (first_of_both _ _ c.requires) in
    ap Some matches.0 ∙ parsed_gives _ _ is_free

pub returns : goal.returns
unfolding parsed_by
returns c = elim (c.in-Err.ensures.kinds c.requires) [
  | inl memory ↦ absurd (c.in_default.not-OutOfMemory (c.kind.ensures ∙ memory))
  | inr among ↦ refused_gives _ _ _ among
]
