use Rattle.std.proofs.Common.{◌≡◌, ◌∙◌, ap, sym, Ok, List, ℕ, Some, true}
use Rattle.std.specs.Str.{is_utf8}
use Rattle.std.proofs.lemmas.Str.{is_utf8-from_IsUtf8}
use Rattle.osm_objects.proofs.Utf8.{as_text-is, as_text-not}
use Rattle.osm_objects.proofs.entry.Entry.text.Goals as goal
use Rattle.osm_objects.proofs.entry.Entry.text.Goals.{in-Some-1, in-None-1}

-- what is known of a text that was made
made_known : (made bytes : List ℕ) → made ≡ bytes → is_utf8 bytes ≡ true → (x : List ℕ) → Some made ≡ Some x → (x ≡ bytes) × (is_utf8 bytes ≡ true)
made_known made bytes e utf8 x same = (cc, utf8)

pub returns-in_default-from_utf8-clause-answer : goal.returns-in_default-from_utf8-clause-answer
returns-in_default-from_utf8-clause-answer c = as_text-not _ _ _ c.in_default-from_utf8.ensures.cases.0

pub invariant_of-self : goal.invariant_of-self
invariant_of-self c = record {
  key_known = c.args.self.now.key_known;
  text_known = made_known _ _ (c.in_ok-made.ensures ∙ c.in-Ok.ensures.cases.0) (is_utf8-from_IsUtf8 _ c.in-Ok.ensures.cases.1);
}

pub returns-clause-answer : goal.returns-clause-answer
returns-clause-answer c =
    as_text-is _ _ _ c.in-Ok.ensures.cases.1
    ∙ ap (λ t. Ok t) (sym (c.in_ok-copy.ensures.cases ∙ c.in_ok-made.ensures ∙ c.in-Ok.ensures.cases.0))
